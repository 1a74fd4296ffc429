-- Laws of the reader behind a header, by subject.
pub mod Places
