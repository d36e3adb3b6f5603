pub mod Waste
pub mod Walk
pub mod Reading
pub mod Slack
pub mod Strands
