-- Where clauses come from.
pub mod Origins
pub mod Calls
pub mod Inner
