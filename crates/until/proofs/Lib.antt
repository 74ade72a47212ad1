-- Steps: a step on a block's words.
pub mod Steps
