pub mod Asking
mod Entries
mod Stays
pub mod Waiting
