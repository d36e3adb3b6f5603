pub mod Results
pub mod Finals
pub mod Rest
pub mod Stretches
pub mod Passed
pub mod Outcome
pub mod Answers
