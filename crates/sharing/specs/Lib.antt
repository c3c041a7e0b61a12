pub mod Shares
pub mod HandOut
