pub mod Firsts
pub mod Counted
pub mod Searched
pub mod Tied
pub mod Joined
