-- Why what is put is what the rules keep and tell.
pub mod Laws
pub mod NoChoice
