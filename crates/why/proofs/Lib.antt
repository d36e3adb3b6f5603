pub mod Telling
pub mod Answering
pub mod Printing
pub mod Sample
