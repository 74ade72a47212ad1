-- The text of "A full run". Read Report: the text, and what the call that writes it promises. Run has what a private function answers,
-- Examples document 01's run.
pub mod Report
pub mod Run
pub mod Examples
