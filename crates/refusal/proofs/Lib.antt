-- A law on the numbers of the refusals.
pub mod Numbers
