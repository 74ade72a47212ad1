-- Laws on words of answers that the layers above cite.
pub mod Laws
pub mod Zeros
pub mod Lowest
pub mod Filling
