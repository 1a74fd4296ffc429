-- Laws and theorems of the answer.
pub mod Laws
pub mod NoChoice
