pub mod Printer
pub mod Printing
pub mod Answered
