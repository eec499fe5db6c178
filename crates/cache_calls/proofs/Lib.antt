pub mod Lying
pub mod Finds
pub mod Steps
pub mod Sifted
pub mod Retained
