pub mod Cargo
pub mod Load
pub mod Laws
pub mod History
pub mod Limit
pub mod Senders
