-- Laws of clause bytes, by subject.
pub mod Words
pub mod Stand
pub mod Wrong
pub mod Checking
