pub mod Order
pub mod Sized
pub mod limits
pub mod passing
pub mod ranks
pub mod service
pub mod set_figures
pub mod steps
