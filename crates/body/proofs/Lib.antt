-- Laws and theorems of the reader behind a header.
pub mod Laws
pub mod Cases
pub mod NoChoice
