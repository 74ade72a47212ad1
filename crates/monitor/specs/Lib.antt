-- What the product's calls promise. Read emit's Verdicts and Top, then Stands, and Open, Resume, Trim, Summary, Status and Formulas, which
-- the calls' `ensures` name. Examples has the cases worked by hand.
pub mod Stands
pub mod Open
pub mod Resume
pub mod Trim
pub mod Summary
pub mod Status
pub mod Formulas
pub mod Examples
