-- Words: a block after stores. Onward: what is done to a block on any words. Taking: a block after positions were taken. Reading: windows
-- opened from a block's head on.
pub mod Words
pub mod Onward
pub mod Taking
pub mod Reading
