-- Laws on slices, views and windows that the layers above cite.
pub mod Slices
pub mod Marks
pub mod Windows
pub mod Copies
pub mod Picking
pub mod Reading
