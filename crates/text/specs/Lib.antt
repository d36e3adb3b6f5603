pub mod Text
pub mod Put
pub mod Lines
pub mod Moves
