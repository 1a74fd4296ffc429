-- What only the contracts of inner functions, and laws, cite.
pub mod Held
