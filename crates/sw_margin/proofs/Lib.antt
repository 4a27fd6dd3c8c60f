pub mod Waiting
pub mod Picked
pub mod Ways
pub mod Needing
pub mod LinkRows
pub mod Lawful
pub mod Greatest
mod Whole
mod Back
mod Replied
mod Exact
mod Stalled
mod Tellings
mod Answerable
mod RisingNumbers
