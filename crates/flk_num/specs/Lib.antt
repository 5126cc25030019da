pub mod Interval
pub mod Values
pub mod Square
pub mod Lamp
pub mod Rate
pub mod Stop
