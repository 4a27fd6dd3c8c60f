pub mod Answered
pub mod AnsweredTwo
pub mod LineEnds
pub mod Paths
mod Trusted
pub mod Zero
