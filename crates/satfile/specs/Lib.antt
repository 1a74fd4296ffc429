-- Texts of the other DIMACS format, in the order of the rules.
pub mod Trees
pub mod Texts
pub mod Calls
pub mod Inner
