-- Laws that the layers above rely on. Offsets: where the blocks stand. Copies: an entry's copy in its block. SameRule: a checkpoint's copy
-- is of one rule alone.
pub mod Offsets
pub mod Copies
pub mod SameRule
