pub mod Command
pub mod Reply
