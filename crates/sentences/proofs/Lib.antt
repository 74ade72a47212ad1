-- Lines: the text of a line. Shapes: what is sure of a saying. Operands: an entry that answers, and its operands' entries. SinceFound and
-- UntilFound: what is said from what was searched, which Searched and Sayings bring to the entry.
pub mod Lines
pub mod Shapes
pub mod SinceFound
pub mod UntilFound
pub mod Operands
pub mod Searched
pub mod Sayings
