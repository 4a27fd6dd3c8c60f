pub mod Witnesses
pub mod OtherFlows
pub mod Unanswered
pub mod Laws
pub mod Notes
