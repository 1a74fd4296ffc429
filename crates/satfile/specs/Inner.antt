-- What only the contracts of inner functions cite: the reader, and what it leaves.
-- `proofs/Reading` says that the reader is the grammar's, so nothing here is to be believed.
pub mod Reads
pub mod Stores
pub mod Parts
pub mod Calls
