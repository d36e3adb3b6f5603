pub mod Valid
pub mod Readers
