pub mod Limits
pub mod Verdict
pub mod Report
