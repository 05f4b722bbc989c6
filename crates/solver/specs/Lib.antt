pub mod Solving
pub mod Lines
