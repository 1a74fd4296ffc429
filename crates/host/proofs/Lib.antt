-- Theorems of the entries.
pub mod NoChoice
