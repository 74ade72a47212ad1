-- What until's inner functions promise.
pub mod Code
