-- The formula table, in the order of the rules. What only inner contracts cite stands in Inner.
pub mod Tables
pub mod Checks
pub mod Truths
pub mod Inner
