pub mod Part
pub mod Words
