pub mod Ready
pub mod Wanting
pub mod Looking
pub mod Choosing
