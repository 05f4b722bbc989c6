pub mod Frames
pub mod Faults
pub mod Asking
