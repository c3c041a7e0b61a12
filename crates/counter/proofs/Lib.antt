pub mod Endings
pub mod Printed
pub mod Written
pub mod Members
