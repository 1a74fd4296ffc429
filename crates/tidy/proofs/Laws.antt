-- Laws, by subject.
pub mod Places
pub mod Windows
pub mod Noting
pub mod Scanning
pub mod Searching
pub mod Passes
pub mod Sections
pub mod Passing
pub mod Walking
pub mod Calls
