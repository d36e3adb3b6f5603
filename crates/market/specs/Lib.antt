pub mod Market
pub mod Cutting
