-- Laws of texts, by subject.
pub mod Decimals
pub mod Numbers
pub mod Fields
pub mod Pieces
pub mod Same
pub mod Backward
