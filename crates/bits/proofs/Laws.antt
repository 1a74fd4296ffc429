-- Laws of bits, by subject.
pub mod Bytes
pub mod Rows
