pub mod Naming
pub mod Numbering
