pub mod Cutter
pub mod Intervals
