-- General definitions, by subject.
pub mod Numbers
pub mod Lists
pub mod Automata
pub mod Inner
