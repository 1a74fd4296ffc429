-- Laws and theorems of clause bytes.
pub mod Laws
pub mod Cases
pub mod Encoded
pub mod NoChoice
