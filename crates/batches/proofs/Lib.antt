pub mod Own
pub mod Copying
pub mod Blocks
pub mod Parts
pub mod Controls
