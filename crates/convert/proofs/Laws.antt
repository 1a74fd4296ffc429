-- Laws of converting, by subject.
pub mod Checked
pub mod Fitted
pub mod Written
