-- Laws of the formula table, by subject.
pub mod Tables
pub mod Faults
pub mod WellFormed
