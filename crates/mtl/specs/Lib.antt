-- Metric temporal logic on finite logs. Read Formula, Log, Satisfaction, Progress, Wanted, then Reading; Examples has the sources' worked examples.
pub mod Formula
pub mod Log
pub mod Satisfaction
pub mod Progress
pub mod Wanted
pub mod Reading
pub mod Examples
