pub mod Chosen
pub mod Moving
pub mod Rising
pub mod Headers
pub mod Passing
pub mod Once
