pub mod Improving
pub mod Answering
