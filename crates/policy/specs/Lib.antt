pub mod View
pub mod Insertion
