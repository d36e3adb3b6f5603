pub mod Filling
pub mod Picking
pub mod Placing
pub mod Counting
pub mod Queueing
pub mod Units
