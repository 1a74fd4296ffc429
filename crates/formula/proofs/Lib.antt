-- Laws and theorems of the formula table.
pub mod Cases
pub mod Laws
pub mod NoChoice
