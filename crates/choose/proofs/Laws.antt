-- Laws of choosing, by subject.
pub mod All
pub mod Chosen
pub mod Folds
pub mod Grows
pub mod Pass
pub mod Told
pub mod Visits
