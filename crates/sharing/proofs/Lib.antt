pub mod Looking
pub mod Parts
pub mod Shares
pub mod HandOut
