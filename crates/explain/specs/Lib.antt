-- The call of document 02, paper 13. Read Explain, then Examples; Code is what its functions promise each other.
pub mod Explain
pub mod Examples
pub mod Code
