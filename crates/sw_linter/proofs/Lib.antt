pub mod Ranges
pub mod Tests
pub mod TableSteps
pub mod Waits
pub mod Noting
pub mod Members
pub mod Again
pub mod Keys
pub mod Pairs
pub mod Telling
pub mod OneList
pub mod LinkedPorts
pub mod Words
pub mod Lawful
pub mod Worded
mod Strangers
mod KindsOfSlips
pub mod Rooms
mod Circles
mod Initiators
mod AddressesWorded
