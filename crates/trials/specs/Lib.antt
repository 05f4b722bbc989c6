pub mod Corners
pub mod Counts
pub mod Determinants
pub mod Draws
pub mod Parts
