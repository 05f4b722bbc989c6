pub mod Choosing
pub mod Scanning
pub mod Boxing
pub mod Marking
pub mod Scans
