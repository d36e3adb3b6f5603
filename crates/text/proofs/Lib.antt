pub mod Decimal
pub mod Parts
pub mod Putting
pub mod Sending
pub mod Moving
pub mod Sample
