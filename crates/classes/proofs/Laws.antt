-- Laws of the classes, by subject.
pub mod Classes
