-- Rules typed as text: paper 1. Read Tokens, Grammar, Parse. Derivations has the grammar's precedence by worked texts, Examples the refusals
-- by worked texts, Reader what the private functions answer.
pub mod Tokens
pub mod Grammar
pub mod Ascii
pub mod Derivations
pub mod Parse
pub mod Examples
pub mod Reader
