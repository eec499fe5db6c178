pub mod Notes
pub mod Remembered
