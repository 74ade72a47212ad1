-- Laws that the layers above rely on. Sizes: refusals 1 to 9. Checks: what the checks of a call tell by their outcome.
pub mod Sizes
pub mod Checks
