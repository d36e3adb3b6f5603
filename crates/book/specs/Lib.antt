pub mod Said
pub mod Finals
pub mod Steps
pub mod Passed
