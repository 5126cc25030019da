-- ---- what public contracts cite
pub mod Smoothing
pub mod Rounded
pub mod Smooth
pub mod Width
pub mod Rank
pub mod Severity
pub mod LongTerm
pub mod Levels
-- ---- what private ones cite besides
pub mod Ranked
pub mod Buckets
pub mod Walk
pub mod ListOfEnds
