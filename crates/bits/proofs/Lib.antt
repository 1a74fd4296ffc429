-- Rows of bits.
pub mod Laws
pub mod NoChoice
