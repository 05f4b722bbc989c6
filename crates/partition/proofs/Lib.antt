pub mod Leverage
pub mod BoxLaws
pub mod Bits
pub mod Opens
pub mod Scans
