-- The clausal transformation, in the order of the rules.
pub mod Clauses
pub mod Output
pub mod Places
pub mod Totals
pub mod Choosing
pub mod Calls
pub mod Meanings
pub mod Inner
