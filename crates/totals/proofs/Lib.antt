-- Laws and theorems of the totals.
pub mod Laws
pub mod NoChoice
