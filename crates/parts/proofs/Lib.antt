-- Laws and theorems of the output's parts.
pub mod Laws
pub mod NoChoice
