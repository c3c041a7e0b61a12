pub mod Handed
pub mod Modes
