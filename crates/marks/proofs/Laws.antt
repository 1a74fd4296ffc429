-- Laws of marks and sets, by subject.
pub mod Held
pub mod Marks
pub mod Passing
pub mod Polarity
pub mod Sets
