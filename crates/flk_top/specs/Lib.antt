-- cited by public contracts
pub mod Outcome
pub mod Command
pub mod Told
pub mod Configuration
pub mod Matching
pub mod Faults
pub mod Text
pub mod Levels
pub mod LevelsDue
pub mod CheckDue
pub mod Certified
pub mod Tables
pub mod ReportDue
pub mod GenDue
pub mod Answer
pub mod Run
pub mod Headline
-- cited by private ones
pub mod Status
pub mod Replies
pub mod Measuring
pub mod Blocks
pub mod Working
pub mod Checking
