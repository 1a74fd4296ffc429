-- Laws of lists of names, by subject.
-- Assumes nothing.
pub mod Names
pub mod Checks
pub mod Places
pub mod Notes
