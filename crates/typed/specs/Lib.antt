pub mod Words
pub mod Rosters
pub mod Asking
pub mod Texts
