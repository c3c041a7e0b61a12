pub mod Zeros
pub mod Gathering
pub mod Looking
