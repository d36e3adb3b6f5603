pub mod Tests
pub mod Rings
pub mod Walking
pub mod Shown
