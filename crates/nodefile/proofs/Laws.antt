-- Laws of the node file, by subject.
pub mod Fields
pub mod Options
pub mod Nodes
pub mod Lines
pub mod Files
pub mod Fits
pub mod Answers
