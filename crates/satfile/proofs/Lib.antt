-- Laws and theorems of the reader of `p sat` texts.
pub mod Laws
pub mod Cases
pub mod NoChoice
pub mod Reading
pub mod Tables
