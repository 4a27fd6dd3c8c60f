pub mod Cells
pub mod Arbiters
pub mod Grants
pub mod Outcomes
pub mod Ends
pub mod Notes
pub mod Wanted
pub mod Laws
