-- What only the contracts of inner functions cite: the writer word by word, and what is read behind a header.
-- `proofs/Reading` says that the reader is the grammar's, so nothing here is to be believed.
pub mod Words
pub mod Walks
pub mod Copies
pub mod Calls
