pub mod Sharing
pub mod Accepting
pub mod Final
