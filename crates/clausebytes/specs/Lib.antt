-- Clause bytes, in the order of the rules.
pub mod Words
pub mod Inner
