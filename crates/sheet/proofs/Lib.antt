pub mod OrElse
pub mod Marks
pub mod Refusal
pub mod Judged
pub mod Strands
