pub mod Filed
pub mod Ties
