pub mod Unique
pub mod First
pub mod Parts
pub mod Sense
