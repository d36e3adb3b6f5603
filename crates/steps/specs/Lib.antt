pub mod Turns
pub mod Parts
