pub mod OnChannels
mod ExplainedSteps
pub mod ExplainedTexts
mod First
mod Lists
mod NotFree
pub mod NamesPlain
mod StepValues
mod ExplainPlain
mod TanglesOnce
mod ExplainOnce
