pub mod Leading
pub mod Rows
pub mod Fixing
pub mod Running
pub mod Using
