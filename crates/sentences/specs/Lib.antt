-- The sentence of one entry of a rule at a position: document 02, paper 13. Read Line, then Said.
pub mod Line
pub mod Said
