-- What the engine promises. Read State (a whole subformula), Table, Layout, Tops and Answer. Ask is what its functions promise each other.
pub mod State
pub mod Table
pub mod Layout
pub mod Tops
pub mod Answer
pub mod Ask
