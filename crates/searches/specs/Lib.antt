pub mod States
pub mod Lowest
