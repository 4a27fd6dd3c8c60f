pub mod AtHand
pub mod Given
pub mod Objects
