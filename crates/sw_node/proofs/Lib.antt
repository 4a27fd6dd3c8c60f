pub mod Characters
pub mod Replies
