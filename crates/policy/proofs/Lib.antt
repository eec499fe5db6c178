pub mod Keeps
pub mod Outs
pub mod Frees
pub mod Readiness
pub mod Fits
pub mod Seats
pub mod Flags
pub mod Standing
