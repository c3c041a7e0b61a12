pub mod Trays
pub mod Seen
