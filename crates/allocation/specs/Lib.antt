pub mod Shared
pub mod Final
