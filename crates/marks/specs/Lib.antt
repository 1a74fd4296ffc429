-- Polarity marks and sets of renamed nodes, in the order of the rules. What only inner contracts cite stands in Inner.
pub mod Paths
pub mod Marks
pub mod Sets
pub mod Inner
