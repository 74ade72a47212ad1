-- The laws behind the proofs of the engine's functions, and those that the layer above relies on.
-- Parts, Uniform, Onward, Heads, Stored, Drive: the driver `answer`. Letters: what a letter answers. Longer: the state survives a longer log.
-- Held: the words of a formula's own block that its state does not look at.
-- Rows: the table of an accepted rule. Entries: a subformula's words entry by entry, fresh words, ranges. Formulas: those of a rule.
-- Beside: one formula's words are written, the others' stay. Places: the rows of a rule's formulas.
pub mod Parts
pub mod Uniform
pub mod Onward
pub mod Heads
pub mod Letters
pub mod Stored
pub mod Drive
pub mod Longer
pub mod Held
pub mod Rows
pub mod Entries
pub mod Formulas
pub mod Beside
pub mod Places
