pub mod View
pub mod Tied
pub mod Filing
pub mod Departing
pub mod Admitting
