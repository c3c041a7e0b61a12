pub mod Places
pub mod Passing
pub mod ByPieces
pub mod Once
