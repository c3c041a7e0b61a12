pub mod Header
pub mod Blocks
