-- cited by the contracts of public functions
pub mod Phase
pub mod Taking
-- what the parts of a phase stand for
pub mod Halves
pub mod Meter
pub mod Severities
-- of some of the phases at a block
pub mod Parts
