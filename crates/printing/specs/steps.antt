pub mod Ending
pub mod Room
