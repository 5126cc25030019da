-- ---- what public contracts cite
pub mod Extreme
pub mod Steady
pub mod Changes
pub mod Resolutions
-- ---- what private ones cite besides
pub mod Candidates
pub mod Extremes
pub mod Pass
