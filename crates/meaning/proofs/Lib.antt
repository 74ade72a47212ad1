-- The laws of verdicts.
pub mod Laws
