mod Named
pub mod Utf8
mod Reading
mod LineSteps
mod Parts
mod Written
mod Words
mod WrittenCargo
mod WrittenNames
mod Listed
mod Entries
mod WrittenLines
mod Histories
mod Texts
mod TextSoFar
pub mod Stops
pub mod OneReport
pub mod Making
pub mod NetSteps
pub mod LimitedSteps
pub mod NetReports
pub mod Outputs
pub mod PartLists
pub mod LockedAt
