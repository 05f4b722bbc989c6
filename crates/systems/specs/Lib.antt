pub mod Entries
pub mod Refusals
pub mod Tables
pub mod Points
pub mod Boxes
