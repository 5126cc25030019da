pub mod Adaptor
pub mod Rounded
pub mod Front
pub mod Width
