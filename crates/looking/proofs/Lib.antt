pub mod Joined
pub mod Once
