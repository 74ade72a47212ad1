-- Witnesses: which times are alive. Turn: the turns of a batch of positions. Newest: a batch where low is 0. Runs: which
-- positions are old enough. Oldest: a batch where low is above 0 and no time is dropped.
pub mod Witnesses
pub mod Shown
pub mod Turn
pub mod Newest
pub mod Runs
pub mod Oldest
