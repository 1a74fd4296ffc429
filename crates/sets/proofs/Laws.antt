-- Laws, by subject.
pub mod Walks
pub mod Codes
pub mod Signs
pub mod Marking
pub mod Empty
