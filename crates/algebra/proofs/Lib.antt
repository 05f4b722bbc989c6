pub mod Ring
pub mod Order
pub mod Vectors
pub mod Dependence
pub mod Solving
pub mod Corner
pub mod Chaining
pub mod Filling
