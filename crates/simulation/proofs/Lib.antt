-- Laws of the generator, of a second of the kiosk, and of a run; Theorem has what is proved of every simulation, Order which steps of
-- a second may change places.
pub mod Xor
pub mod Kept
pub mod Running
pub mod Outcome
pub mod Theorem
pub mod Order
