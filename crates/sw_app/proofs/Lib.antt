pub mod PlaceChannels
mod RouteLines
mod RouteFound
pub mod OneRoute
pub mod OneVerdict
pub mod ShownFree
pub mod Told
mod Decided
pub mod OneCount
pub mod OneReport
