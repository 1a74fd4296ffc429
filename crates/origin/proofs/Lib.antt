-- Laws and theorems of where clauses come from.
pub mod Cases
pub mod Fields
pub mod Laws
pub mod NoChoice
pub mod Sources
