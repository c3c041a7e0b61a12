pub mod Chains
pub mod Once
pub mod Accounts
