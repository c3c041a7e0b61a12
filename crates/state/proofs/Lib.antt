pub mod Once
pub mod Steps
pub mod Entering
pub mod Numbering
