pub mod Parts
pub mod Makes
pub mod SwitchParts
pub mod Picks
pub mod Possible
pub mod Places
pub mod CellParts
pub mod Answers
