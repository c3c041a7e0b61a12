pub mod Notes
pub mod Places
pub mod Picks
