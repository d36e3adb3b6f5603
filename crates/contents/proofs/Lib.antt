pub mod Bodies
pub mod Refusal
pub mod Lookup
