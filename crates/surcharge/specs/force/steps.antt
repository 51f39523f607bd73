pub mod Joint
pub mod Moderate
