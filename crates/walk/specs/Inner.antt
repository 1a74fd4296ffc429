-- What the contracts of this crate and of those above it cite.
pub mod Lists
pub mod Packed
pub mod Steps
pub mod Written
