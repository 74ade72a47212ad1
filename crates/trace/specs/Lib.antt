-- The log format. Read Format (the bytes), Positions and Log (what they mean to the logic), Order (check 14), then Making (logs made here).
-- Letters is how the code reads a letter at many records.
pub mod Format
pub mod Letters
pub mod Positions
pub mod Log
pub mod Order
pub mod Making
