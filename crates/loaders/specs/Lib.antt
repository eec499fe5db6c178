pub mod Fault
pub mod Layer
pub mod Look
