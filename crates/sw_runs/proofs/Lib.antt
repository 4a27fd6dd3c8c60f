mod Retold
mod Filled
pub mod ReplayReports
pub mod OneReplay
pub mod NodeValues
pub mod ReplayPlain
pub mod RunPlain
mod RunsAlone
mod Fits
