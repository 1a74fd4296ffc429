-- Laws and theorems of choosing.
pub mod Laws
pub mod Allowances
pub mod Bounded
pub mod Ends
pub mod NoChoice
