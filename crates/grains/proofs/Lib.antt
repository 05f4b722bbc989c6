pub mod Sizes
pub mod Span
pub mod Narrowing
pub mod Containment
