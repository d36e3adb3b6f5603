pub mod Found
pub mod Given
pub mod Burdens
pub mod Costs
