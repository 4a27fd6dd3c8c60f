pub mod PassedOver
mod PickHistory
