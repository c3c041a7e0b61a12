pub mod Details
pub mod Files
pub mod Sums
pub mod Seen
pub mod Promised
