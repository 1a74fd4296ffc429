-- What is kept of a clause, and the lines that tell what goes.
pub mod Inner
