pub mod Line
pub mod Search
