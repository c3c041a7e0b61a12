pub mod Arms
pub mod Numbers
pub mod Words
pub mod Currencies
pub mod Blocks
pub mod Pieces
