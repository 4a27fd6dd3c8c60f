pub mod Moves
pub mod Told
mod Renewed
mod Commit
pub mod FctNumbers
mod Opened
mod Idle
mod Looked
mod Chosen
pub use Rattle.sw_history.proofs.Follows
pub use Rattle.sw_net.proofs.Policies
pub use Rattle.sw_history.proofs.Emptied
