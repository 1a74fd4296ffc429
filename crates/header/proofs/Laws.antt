-- Laws of the head of a text, by subject.
pub mod Readers
pub mod Heads
pub mod Steps
pub mod Reading
pub mod White
