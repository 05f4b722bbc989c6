pub mod Refusals
pub mod Texts
pub mod Waiting
pub mod Searching
pub mod Promise
