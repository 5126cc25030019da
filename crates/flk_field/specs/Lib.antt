pub mod Kinds
pub mod Dates
pub mod Values
pub mod Sets
pub mod Columns
pub mod DateParts
