-- Laws and theorems of the head of a text.
pub mod Laws
pub mod Cases
pub mod Headed
pub mod NoChoice
