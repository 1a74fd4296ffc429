-- Tidying clause bytes.
pub mod Inner
