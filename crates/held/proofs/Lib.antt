-- The laws behind the proofs.
pub mod Kept
pub mod Places
pub mod Holding
pub mod TakingOut
