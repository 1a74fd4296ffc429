-- Laws of the walk, by subject.
pub mod Counts
pub mod Found
pub mod Leads
pub mod Packed
pub mod Put
pub mod Writes
