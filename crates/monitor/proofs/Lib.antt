-- The laws behind the proofs of the monitor's functions, and those that the theorems about lists of calls rely on.
-- Meaning: the formulas of an accepted rule. Starts: a fresh checkpoint. Resuming: the verdicts of a call. Trimming: what a trimming writes.
-- Summarizing: what a checkpoint tells. Answers, VerdictBytes, OwnCheckpoint: what lists of calls and the layers above rely on.
pub mod Answers
pub mod Meaning
pub mod VerdictBytes
pub mod OwnCheckpoint
pub mod Starts
pub mod Resuming
pub mod Trimming
pub mod Summarizing
