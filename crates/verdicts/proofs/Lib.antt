-- The laws behind the proofs of this crate's functions, and those that the layers above cite.
-- Packing, Columns, Stores: eight positions at once. Bytes: verdict bytes and the answers in them. Written: a sheet after verdicts were
-- written into it. Listed, Tallies, Noes: what is counted.
pub mod Packing
pub mod Bytes
pub mod Columns
pub mod Stores
pub mod Written
pub mod Listed
pub mod Tallies
pub mod Noes
