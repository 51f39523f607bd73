pub mod Ranked
pub mod Weighs
pub mod Bounds
