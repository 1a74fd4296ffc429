-- What only inner contracts cite.
pub mod Grounds
pub mod Lines
pub mod Pens
pub mod Shown
pub mod Spots
pub mod Ways
