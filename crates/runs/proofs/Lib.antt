pub mod Running
pub mod Counting
