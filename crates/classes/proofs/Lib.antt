-- Laws and theorems of the classes.
pub mod Laws
pub mod Cases
pub mod NoChoice
