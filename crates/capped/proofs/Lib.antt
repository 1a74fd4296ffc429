-- Laws and theorems of totals at their ceilings.
pub mod Laws
pub mod NoChoice
