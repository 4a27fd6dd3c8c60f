pub mod Texts
pub mod Positions
pub mod Steps
pub mod Wired
pub mod Flows
pub mod FlowLaws
pub mod Passes
mod Answering
pub mod AnsweringNodes
mod LimitSums
mod LimitRows
pub mod Limits
pub use Rattle.sw_route.proofs.PortBits
pub use Rattle.sw_route.proofs.PortWalk
pub use Rattle.sw_route.proofs.Ends
pub use Rattle.sw_route.proofs.Lists
