-- Literals of clauses as sets: laws, and no choice.
pub mod Laws
pub mod NoChoice
