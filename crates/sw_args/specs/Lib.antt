pub mod CommandLine
pub mod Parts
pub mod Release
