pub mod Chain
pub mod Once
