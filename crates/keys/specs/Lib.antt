pub mod Choice
pub mod Hash
pub mod Named
pub mod Numbered
