pub mod Workload
pub mod Stands
pub mod Recording
pub mod Progress
