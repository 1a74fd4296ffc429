-- Laws and theorems of the walk to a clause.
pub mod Laws
pub mod NoChoice
