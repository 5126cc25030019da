pub mod Rounding
pub mod Fraction
pub mod Run
pub mod Cut
pub mod HalfPeriod
pub mod Extreme
