pub mod Added
pub mod CrcSteps
pub mod Reading
pub mod Answering
pub mod Parts
