pub mod Telling
pub mod Given
pub mod Files
