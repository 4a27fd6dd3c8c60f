pub mod PairedLines
pub mod EachLine
pub mod NodeLines
pub mod Order
pub mod Counts
mod Sums
mod ReportLines
