-- How the verdicts of a call are given: the promises of the functions.
pub mod Code
