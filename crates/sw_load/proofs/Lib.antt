mod Spelled
mod Tables
mod Weights
pub mod Listed
pub mod Digits
pub mod Fronts
pub mod Grown
pub mod Packets
pub mod Sends
