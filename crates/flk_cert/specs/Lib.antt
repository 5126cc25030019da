-- ---- what public contracts cite
pub mod Section
pub mod RoundedSection
pub mod Bound
pub mod Row
pub mod Cause
pub mod Certificate
pub mod Gain
pub mod Make
-- ---- what private ones cite besides
pub mod Judged
pub mod Making
