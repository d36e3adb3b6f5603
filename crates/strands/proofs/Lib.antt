pub mod Refusals
pub mod Filling
pub mod Rows
pub mod Joining
pub mod Showing
