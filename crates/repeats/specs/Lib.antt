pub mod Numbers
pub mod Bits
pub mod Pages
