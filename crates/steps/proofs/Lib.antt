pub mod Ready
pub mod Tables
pub mod Turned
pub mod Stepped
pub mod Staged
pub mod Stepping
