pub mod Room
pub mod Answers
pub mod Reasons
