-- The laws behind the proofs. Lines: how long they are. Runs: what one call of `open` and one of `resume` come to.
pub mod Lines
pub mod Runs
