-- The reader of what stands behind the header. `Reading` of the crate `dimacs` says that it is the grammar's, so nothing here is to be
-- believed.
pub mod Inner
