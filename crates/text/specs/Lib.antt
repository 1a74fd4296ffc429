-- What texts are made of, in the order of the rules.
pub mod Texts
pub mod Inner
