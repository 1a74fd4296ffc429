-- The node file, in the order of the rules.
pub mod Files
pub mod Inner
