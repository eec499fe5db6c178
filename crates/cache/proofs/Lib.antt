pub mod Performing
pub mod Playing
