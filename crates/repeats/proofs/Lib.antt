pub mod Repeats
pub mod Pages
pub mod Looking
pub mod Set
pub mod Further
