-- A kiosk to try settings on. Read Generator (the draws), Kiosk (a second of it), Simulate (the log and the answer), Arrivals (what
-- the three numbers sum to), then Examples.
pub mod Generator
pub mod Kiosk
pub mod Simulate
pub mod Arrivals
pub mod Examples
