-- What the walks of an until promise.
pub mod Settle
