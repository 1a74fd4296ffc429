-- Laws and theorems of marks and sets.
pub mod Cases
pub mod Laws
pub mod NoChoice
