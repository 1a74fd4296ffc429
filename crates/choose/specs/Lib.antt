-- What the inner contracts cite, and what the second pass ends with.
pub mod Inner
pub mod Ends
