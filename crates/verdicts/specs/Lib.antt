-- Verdict buffers (sheets). Read Bytes (a verdict byte), Counts (what is counted in a sheet) and Tally, which the call's `ensures` names.
-- Examples has rows worked by hand, Code the promises of inner functions.
pub mod Bytes
pub mod Counts
pub mod Tally
pub mod Examples
pub mod Code
