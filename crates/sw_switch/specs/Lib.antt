pub mod Cell
pub mod Conditions
pub mod Changes
pub mod Waiting
