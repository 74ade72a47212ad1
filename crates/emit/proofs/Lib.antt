-- The laws behind the proofs.
pub mod Giving
pub mod Turns
pub mod Emitting
