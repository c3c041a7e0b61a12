pub mod Blocks
pub mod Sums
