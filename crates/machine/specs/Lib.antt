pub mod Cases
pub mod Limits
pub mod Machine
pub mod Measure
pub mod Refusal
pub mod Replacement
pub mod Run
