pub mod Spoken
pub mod Day
pub mod Member
