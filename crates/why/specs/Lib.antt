pub mod Page
pub mod Told
