pub mod Written
pub mod Parts
pub mod Taking
pub mod Printing
pub mod AnswerLines
pub mod Showing
pub mod Reasons
