pub mod Circles
pub mod Circlings
pub mod Laws
