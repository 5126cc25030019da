pub mod Conditions
pub mod RunQuantities
pub mod PhaseResult
pub mod Digits
pub mod Promise
pub mod Widths
