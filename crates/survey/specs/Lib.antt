pub mod Entry
pub mod Station
