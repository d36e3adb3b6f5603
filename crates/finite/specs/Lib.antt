pub mod Sums
pub mod Search
pub mod Lists
pub mod Reach
pub mod Bits
pub mod Packed
pub mod Moves
