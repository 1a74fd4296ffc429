-- Laws and theorems of the program.
pub mod Laws
pub mod NoChoice
