pub mod State
pub mod Lists
pub mod Slots
pub mod Held
pub mod Steps
pub mod Seats
