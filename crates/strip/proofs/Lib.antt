pub mod Becoming
pub mod Passing
