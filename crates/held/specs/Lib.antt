-- What a checkpoint's words stand for between two verdicts (Top), and the promises of the functions (Code).
pub mod Top
pub mod Code
