pub mod Bits
pub mod Traits
pub mod Table
pub mod Dearest
