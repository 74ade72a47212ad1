-- Searches over a whole log. Read Scan, then Times.
pub mod Scan
pub mod Times
