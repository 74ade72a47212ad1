-- What since's inner functions promise.
pub mod Old
