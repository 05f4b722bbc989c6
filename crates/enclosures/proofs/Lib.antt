pub mod Views
pub mod Rows
pub mod Scales
pub mod Enclosing
pub mod Walks
