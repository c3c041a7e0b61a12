pub mod Ends
pub mod Succession
pub mod Printed
pub mod Received
