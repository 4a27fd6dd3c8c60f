pub mod Numbers
pub mod Cuts
mod FirstByte
mod Rests
pub mod Documents
pub mod Members
pub mod Walks
pub mod Unknown
pub mod Tests
pub mod Endings
pub mod Results
mod WrittenParts
pub mod NameBytes
