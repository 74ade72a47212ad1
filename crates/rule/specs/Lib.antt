-- The rule format of document 01 and what weighing a rule gives. Read Bytes, Entries, Words, Postfix, Encoding, Refusal, Measure; then
-- Contract, Operands and Accepted, on which the layers above rely. Code has what the private functions answer.
pub mod Bytes
pub mod Entries
pub mod Words
pub mod Postfix
pub mod Encoding
pub mod Refusal
pub mod Measure
pub mod Contract
pub mod Code
pub mod Operands
pub mod Kinds
pub mod Accepted
pub mod Decoded
