pub mod Bytes
pub mod Drops
pub mod Progress
pub mod ReadBack
pub mod Records
pub mod WrittenAgain
