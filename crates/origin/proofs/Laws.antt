-- Laws of origins, by subject.
pub mod Clauses
pub mod Firsts
pub mod Lines
pub mod Only
pub mod Opens
pub mod Pens
pub mod Shown
pub mod Sources
pub mod Spoken
pub mod Spots
pub mod Ways
