mod Called
mod CommandLines
mod Flags
mod Given
mod GivenForms
mod Kept
mod Named
mod Numbers
mod Wanted
pub mod Workers
