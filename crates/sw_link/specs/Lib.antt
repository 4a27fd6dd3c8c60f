pub mod Ends
pub mod Channel
pub mod Between
