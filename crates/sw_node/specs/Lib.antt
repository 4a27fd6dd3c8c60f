pub mod Node
pub mod Conditions
pub mod Changes
