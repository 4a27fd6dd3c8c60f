pub mod Numbered
pub mod AfterAll
mod Fresh
mod PortSets
mod Linked
pub mod OneMore
mod Told
mod Paired
mod Determined
mod Kept
mod Apart
mod Named
mod MovedFlows
mod OwnLinks
mod Rewired
mod OfKinds
mod OneNumber
pub mod Tested
pub mod MoreSlots
pub mod LimitedFlows
pub mod Firsts
pub mod FirstLimits
pub mod WantedSlots
mod WithOutstanding
mod LimitedValid
mod NeverLocked
mod SplitLinks
mod SplitsTried
mod OneLinkMore
mod SplitPlaces
mod SplitFlows
mod SplitArrivals
mod SplitsTold
mod ChangesInWords
pub mod Members
pub mod KeptWays
pub mod SameTargets
pub mod SparedCauses
pub mod SparedSplits
pub mod Using
pub mod Touching
