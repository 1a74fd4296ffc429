-- Laws and theorems of converting.
pub mod Laws
pub mod NoChoice
