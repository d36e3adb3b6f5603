pub mod Page
pub mod Printing
