-- Laws of DIMACS text, by subject.
pub mod Live
pub mod Bytes
pub mod Leads
pub mod Tokens
pub mod Walks
pub mod Bodies
pub mod Steps
pub mod Texts
pub mod Copies
pub mod ReadCall
pub mod Written
pub mod WriteCall
