pub mod Rings
pub mod Tests
pub mod Walk
pub mod Shown
