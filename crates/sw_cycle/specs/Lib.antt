pub mod Cycles
pub mod Laws
pub mod Causes
pub mod Firsts
pub mod Positions
pub mod Goers
pub mod Named
pub mod Rows
pub mod Chunks
pub use Rattle.sw_machine.specs.Model
pub use Rattle.sw_machine.specs.ModelLaws as ModelLaws
pub use Rattle.sw_flow.specs.declared.place.Place
pub use Rattle.sw_flow.specs.declared.fault.RouteFault
