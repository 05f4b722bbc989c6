pub mod Arithmetic
pub mod Narrowing
pub mod Points
