-- Laws of totals at their ceilings.
pub mod Stated
