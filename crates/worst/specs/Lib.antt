-- The log that keeps most seconds waiting (document 02, paper 4). Read Waiting (what is counted), Written (the log), Refusal and Call
-- (what the call promises), Most (what is proved of the log); Examples has small logs by computation, Code what a private function
-- answers.
pub mod Waiting
pub mod Written
pub mod Refusal
pub mod Call
pub mod Code
pub mod Most
pub mod Examples
