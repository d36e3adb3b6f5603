pub mod Greatest
pub mod Levels
pub mod Bearable
pub mod Bundles
pub mod Shares
pub mod Dealing
pub mod Measuring
pub mod Answering
