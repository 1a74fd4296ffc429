-- What was asked for, and what a host sees of a call.
pub mod Calls
pub mod Claims
