-- Calls: the statements about lists of calls, demands 2 and 3. Alone: each formula of a rule in a run of its own. Sooner: document 02, paper
-- 14, and Examples: its rows, and lent words, worked by hand.
pub mod Calls
pub mod Alone
pub mod Sooner
pub mod Examples
