pub mod Entries
pub mod Halving
pub mod IntervalSteps
pub use Rattle.sw_topo.proofs.PortBits
pub use Rattle.sw_topo.proofs.PortWalk
pub use Rattle.sw_topo.proofs.Ends
pub use Rattle.sw_topo.proofs.Lists
