pub mod Bytes
pub mod Holding
