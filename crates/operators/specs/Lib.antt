-- Letter and Neighbour are the promises of inner functions.
pub mod Letter
pub mod Neighbour
