pub mod Calls
pub mod Rosters
pub mod Keys
pub mod Replies
pub mod Lent
pub mod Asking
pub mod Members
pub mod Traying
