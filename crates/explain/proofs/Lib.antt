pub mod Formulas
pub mod Calling
pub mod Claims
