pub mod Division
pub mod Agreement
