pub mod Places
pub mod Sequences
pub mod Currencies
pub mod Blocks
