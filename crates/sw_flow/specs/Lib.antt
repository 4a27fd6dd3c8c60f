pub mod Places
pub mod Ways
pub mod Followers
pub mod Faults
pub mod Numbers
pub mod Laws
pub use Rattle.sw_config.specs.Limits
pub use Rattle.sw_config.specs.Valid
pub use Rattle.sw_config.specs.Entries
pub use Rattle.sw_config.specs.Laws as NetworkLaws
pub use Rattle.sw_config.specs.Looks
pub use Rattle.sw_config.specs.Look
pub use Rattle.sw_config.specs.PlaceEnd
pub use Rattle.sw_config.specs.Wiring
pub use Rattle.sw_config.specs.Checked
pub use Rattle.sw_config.specs.TopologyLaws
