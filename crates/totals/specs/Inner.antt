-- What only contracts inside the crate and of its callers cite.
pub mod Rowed
pub mod Columns
pub mod Prepared
pub mod Sums
