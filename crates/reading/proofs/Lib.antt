pub mod Records
pub mod Walk
pub mod Once
pub mod Running
