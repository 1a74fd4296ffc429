-- Laws of the parts, by subject.
pub mod Helpers
pub mod Loops
pub mod Output
pub mod Parts
