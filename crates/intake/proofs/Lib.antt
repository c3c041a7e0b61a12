pub mod Zeros
pub mod Looking
pub mod Gathering
