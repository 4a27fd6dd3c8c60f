mod Plain
mod CheckFound
mod ReportFound
mod NoteTexts
mod OneAnswer
mod StatusesOfTexts
mod JudgedFiles
pub mod Dashes
pub mod Chosen
pub mod Pairs
pub mod Plainly
pub mod Wanted
pub mod Zeros
mod ZerosOfPaths
pub mod Told
pub mod FileNames
pub mod Greatest
