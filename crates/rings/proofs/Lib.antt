pub mod InLine
pub mod Started
pub mod Ringed
pub mod Rounds
pub mod Found
