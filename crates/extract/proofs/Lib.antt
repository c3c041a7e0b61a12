pub mod Pass
pub mod Blocks
pub mod Sizes
pub mod Turned
pub mod Batches
pub mod Rest
pub mod Progress
pub mod Taking
