pub mod Nearest
pub mod Lamp
pub mod Analog
pub mod Design
