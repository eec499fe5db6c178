pub mod Sums
pub mod Counting
pub mod Totals
pub mod Running
pub mod Laws
