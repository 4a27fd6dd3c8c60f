pub mod Looks
pub mod Intervals
pub mod TableLaws
pub mod OutputLaws
pub mod Laws
pub use Rattle.sw_topo.specs.Checked
pub use Rattle.sw_topo.specs.declared.fault.TopoError
pub use Rattle.sw_topo.specs.declared.limits.TheConstants as LimitConstants
pub use Rattle.sw_topo.specs.Wiring
pub use Rattle.sw_topo.specs.declared.place.PlaceEnd
pub use Rattle.sw_topo.specs.Ports
pub use Rattle.sw_topo.specs.Laws as TopologyLaws
