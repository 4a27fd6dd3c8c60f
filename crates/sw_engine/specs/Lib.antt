pub mod Engines
pub mod Files
pub mod LineAnswers
pub mod Paths
pub mod SystemFiles
pub mod Tellings
