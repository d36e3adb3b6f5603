pub mod Printing
pub mod Sample
