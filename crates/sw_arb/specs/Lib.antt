pub mod PortCounts
pub mod Arbiters
pub mod Ranks
pub mod Fixed
pub mod RoundRobin
pub mod LeastRecent
pub mod Chosen
