pub mod Others
pub mod Steps
pub mod New
pub mod Told
pub mod Sizes
pub mod Few
pub mod Delivered
pub mod Outputs
pub mod Policies
pub mod Possibles
pub mod LinkNumbers
pub mod Asks
pub mod Parts
pub mod Making
mod ChangedNumbers
pub mod CountedCommands
pub mod CountedSteps
pub mod Undeclared
pub use Rattle.sw_cell.proofs.Network as CellNetwork
pub mod Alike
