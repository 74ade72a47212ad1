-- The lines of an entry and of its operands behind it: document 02, paper 13. Read Lines.
pub mod Lines
