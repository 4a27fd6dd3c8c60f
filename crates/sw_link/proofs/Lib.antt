mod Accounts
mod Carried
pub mod Rings
