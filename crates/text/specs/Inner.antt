-- What only the contracts of inner functions cite.
pub mod Numbers
pub mod Pieces
