-- Reasons for verdicts: document 02, paper 13. Read Reason (the lines), Facts (what each says of a log), Text (their bytes) and OfRule: the
-- reasons of a rule over a log, and what the paper claims of them. Search is the first and the last of several positions.
pub mod Search
pub mod Reason
pub mod Facts
pub mod Text
pub mod OfRule
pub mod Examples
