-- The laws behind the proofs of the exported functions.
pub mod Reasons
pub mod Outcomes
