-- Laws and theorems of the node file.
pub mod Laws
pub mod Cases
pub mod NoChoice
pub mod Written
