pub mod Contents
pub mod Walks
pub mod Tabled
pub mod Bits
