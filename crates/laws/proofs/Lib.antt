-- General laws, by subject.
pub mod Arrays
pub mod Automata
pub mod Bytes
pub mod Caps
pub mod Choices
pub mod Every
pub mod First
pub mod Splices
pub mod Stored
pub mod Upward
