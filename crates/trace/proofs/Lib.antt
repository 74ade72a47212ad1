-- Laws on the records of a log that the layers above cite.
pub mod Laws
pub mod Letters
pub mod Falling
pub mod Counting
pub mod Positions
pub mod Parts
pub mod Growing
pub mod Making
pub mod Trimming
