-- What an entry's words mean, and what one step of one entry promises. Read Ring and Block (the words), Kinds and Step. Near is the
-- promise of an inner function.
pub mod Ring
pub mod Block
pub mod Kinds
pub mod Near
pub mod Step
