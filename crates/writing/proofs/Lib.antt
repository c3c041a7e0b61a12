pub mod Stores
pub mod Decimals
pub mod Signs
pub mod Laying
pub mod Answers
