pub mod Follows
pub mod Adds
mod Counts
pub mod FewBegun
mod Idle
mod Kept
pub mod Zero
pub mod Within
pub mod Ready
mod Refused
mod Whole
mod Noting
mod Asking
pub mod Begun
pub mod Way
mod Turned
mod Picked
pub mod Ends
pub mod Emptied
pub mod IdleEmpty
pub mod Steps
pub mod Loop
pub mod Enabled
