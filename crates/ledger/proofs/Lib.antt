pub mod Cells
pub mod Touches
pub mod Walk
