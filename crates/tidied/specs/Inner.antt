-- What only inner contracts and laws cite.
pub mod Firsts
