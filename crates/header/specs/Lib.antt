-- The head of a text, in the order of the rules.
pub mod Heads
pub mod Inner
