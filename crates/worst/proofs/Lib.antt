-- What the checks say, the counting of distinct values, and the theorem on the log.
pub mod Outcome
pub mod Counting
pub mod Theorem
