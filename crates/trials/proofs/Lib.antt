pub mod Expansion
pub mod Quotients
