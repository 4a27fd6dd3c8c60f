pub mod Views
pub mod Cells
pub mod Marks
pub mod Record
pub mod Renewal
pub mod Adding
pub mod Opening
pub mod Asked
pub mod Choices
pub mod Laws
pub use Rattle.sw_history.specs.Next
pub use Rattle.sw_history.specs.Asking
pub use Rattle.sw_net.specs.New as NewNet
pub use Rattle.sw_net.specs.Policies
pub use Rattle.sw_net.specs.Asking as NetAsking
pub use Rattle.sw_net.specs.declared.numbers.Numbers
