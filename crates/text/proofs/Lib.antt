-- Laws of tokens, of the grammar and of the buffer that the functions' proofs cite.
pub mod Cases
pub mod Lexing
pub mod Buffer
pub mod Grammar
pub mod Complete
pub mod Intervals
pub mod Levels
pub mod Small
pub mod Outcome
pub mod Accepted
pub mod Texts
