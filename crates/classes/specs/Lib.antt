-- The classes of bytes.
pub mod Inner
