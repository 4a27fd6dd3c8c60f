pub mod Entries
pub mod Grown
mod Listed
mod Whole
mod Ports
pub mod Known
pub mod Values
pub mod Walked
pub mod Tables
pub mod SwitchTables
pub mod LinkTables
pub mod FlowTables
pub mod Documents
pub mod Valid
pub mod Named
mod Puts
mod TableValues
mod RowSteps
mod LongestRows
mod RowLooks
mod RowsApart
mod PutMembers
pub mod RowEntries
mod RowRoutes
mod Raised
mod Renumbered
mod Unlimited
mod NewTables
mod NewSwitches
mod NewParts
mod NewNetwork
mod Plain
mod PlainReaders
mod PlainEntries
mod PlainTree
mod WholeMigration
