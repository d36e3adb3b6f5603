pub mod Summing
pub mod Laning
