-- Laws of the answer, by subject.
pub mod Order
pub mod Part
