-- Laws and theorems of texts.
pub mod Laws
pub mod Cases
pub mod NoChoice
