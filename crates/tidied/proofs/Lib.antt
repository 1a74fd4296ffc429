-- Tidying: its laws, and small cases.
pub mod Cases
pub mod Sets
pub mod Firsts
pub mod Rows
pub mod Again
pub mod Orders
pub mod Right
pub mod Lines
pub mod Told
