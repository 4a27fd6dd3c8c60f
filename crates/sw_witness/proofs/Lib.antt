pub mod Confirmed
mod SameRuns
mod NoReply
mod Taken
pub mod Away
mod NoLimits
