pub mod FaultWords
pub mod Plain
pub mod PlainValues
mod PairedValues
pub mod Answered
pub mod PlainAnswers
pub mod ObjectEnds
pub mod OneObject
pub mod OneResult
pub mod OneVerdict
mod Memory
mod OneMember
pub mod Added
