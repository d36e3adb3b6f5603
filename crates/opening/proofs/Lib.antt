pub mod Marking
pub mod Opens
