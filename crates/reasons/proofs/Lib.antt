-- The laws behind the theorems. Searches: the first and the last that a test finds. Lines: what the lines of since and until say. Theorem: facts hold
-- and force. Apart: a text can be read back. Laid: where subformulas stand. OfRule: all of it, of the bytes of a rule and a log.
pub mod Searches
pub mod Lines
pub mod Theorem
pub mod Apart
pub mod Laid
pub mod OfRule
