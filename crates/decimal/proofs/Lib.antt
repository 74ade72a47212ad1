-- The laws behind the proofs. Texts: bytes written one after the other. Decimals: the digits of a number.
pub mod Texts
pub mod Decimals
