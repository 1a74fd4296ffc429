-- The proofs of what was asked for.
pub mod Answered
pub mod Outputs
pub mod Origins
pub mod Meanings
pub mod Chains
pub mod Demands
pub mod Faults
pub mod Sources
pub mod Formulas
pub mod Mended
pub mod Tidying
