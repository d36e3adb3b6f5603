pub mod Adding
pub mod Off
