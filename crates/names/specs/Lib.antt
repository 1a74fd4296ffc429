-- Lists of names.
pub mod Names
pub mod Inner
