-- Laws of the totals, by subject.
pub mod Grids
pub mod Columns
pub mod Prepared
pub mod Small
pub mod Sums
