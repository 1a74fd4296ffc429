-- Tidying, in the order of the rules.
pub mod Tidying
pub mod Calls
pub mod Orders
pub mod Told
pub mod Inner
