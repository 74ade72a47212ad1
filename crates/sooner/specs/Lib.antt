-- Document 02, paper 14, over the logic; of bytes and calls it is said in `calls`.
pub mod Sooner
