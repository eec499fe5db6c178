pub mod Records
pub mod Run
