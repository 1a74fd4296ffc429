-- Laws and theorems of DIMACS text.
pub mod Laws
pub mod Reading
pub mod RoundTrip
pub mod Cases
pub mod NoChoice
