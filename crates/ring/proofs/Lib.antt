-- Cells: the ring's cells.
pub mod Cells
