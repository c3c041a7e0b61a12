pub mod Said
pub mod Taken
