pub mod Refusals
pub mod Worths
pub mod Envy
pub mod Off
pub mod Searched
pub mod Checked
