mod MendAnswered
pub mod OneMending
mod OneMendAnswer
mod LossLines
mod LimitLines
mod MendLines
mod OneMarginAnswer
mod MendPlain
mod MendOnce
mod LossValues
mod MarginPlain
mod MarginOnce
pub mod ToldMends
