pub mod Kinds
pub mod Table
pub mod Job
pub mod Times
pub mod Matching
pub mod Reading
