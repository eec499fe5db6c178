pub mod Keyed
pub mod Laid
