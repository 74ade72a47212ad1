-- What a rule means: Verdicts.
pub mod Verdicts
