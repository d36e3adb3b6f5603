pub mod Lending
pub mod Recording
