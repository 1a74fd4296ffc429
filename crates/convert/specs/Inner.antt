-- What only contracts inside the crate cite.
pub mod Fitted
