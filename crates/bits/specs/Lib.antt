-- Words of answers.
pub mod Packed
