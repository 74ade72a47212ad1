-- Logic: until on numbers. Single: a walk by single positions. Log: those words on a log. Words: whole words at once. FirstRight:
-- what they tell where low is 0. Far: beyond high. Told: where the last position taken settles all that wait. Over: where it settles none,
-- however many wait. LatestRight: where low is above 0. Leads: the latest right, by words.
pub mod Logic
pub mod Single
pub mod Log
pub mod Words
pub mod FirstRight
pub mod Far
pub mod Told
pub mod Over
pub mod LatestRight
pub mod Leads
pub mod Stretches
