-- Laws and theorems of lists of names.
-- Assumes nothing.
pub mod Laws
pub mod Cases
pub mod NoChoice
