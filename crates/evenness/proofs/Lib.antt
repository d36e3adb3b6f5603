pub mod Sums
pub mod Bytes
pub mod Counts
