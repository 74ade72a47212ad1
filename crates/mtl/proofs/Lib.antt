-- The theorems on the definitions of specs/: Bounded serves the others; the rest end in the theorems that document 01 asks for.
pub mod Bounded
pub mod Printed
pub mod Until
pub mod Streams
pub mod Lengthening
pub mod Closing
pub mod Joint
pub mod Reach
