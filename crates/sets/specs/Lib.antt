-- The literals of a clause as a set.
pub mod Inner
