-- ---- what public contracts cite
pub mod Cascade
pub mod RoundedCascade
pub mod Points
pub mod Radius
pub mod Filter
pub mod OwnBounds
pub mod Forms
pub mod Chain
pub mod Whole
pub mod Section
pub mod Answer
-- ---- what private ones cite besides
pub mod Kept
pub mod Narrow
pub mod Fine
pub mod Kinds
pub mod RowSection
pub mod Row
pub mod Followed
pub mod Owned
