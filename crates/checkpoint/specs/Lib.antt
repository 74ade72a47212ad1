-- The words of a checkpoint: what each means and its range. Read Checkpoint, then Fresh.
pub mod Checkpoint
pub mod Fresh
