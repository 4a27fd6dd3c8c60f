mod Few
mod Told
mod Numbers
mod Found
pub mod OneList
mod NoComponents
pub mod Lawful
mod Listed
