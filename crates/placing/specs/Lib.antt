pub mod Filling
pub mod Queueing
pub mod Sheets
