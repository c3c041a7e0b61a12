pub mod Faults
pub mod Extracts
pub mod Receiving
pub mod Trays
pub mod Company
