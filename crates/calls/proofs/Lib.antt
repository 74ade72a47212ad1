-- The theorems about lists of calls. Lending: the point in the words that a call lends. Trimming: trimmed logs. Lengthened: a log with
-- records behind it, Appended: with one. Demand3 and Truth: demands 3 and 2. Alone: each formula in a run of its own. Sooner: document 02,
-- paper 14.
pub mod Lending
pub mod Trimming
pub mod Lengthened
pub mod Demand3
pub mod Truth
pub mod Alone
pub mod Appended
pub mod Sooner
