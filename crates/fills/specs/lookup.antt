pub mod Lookup
pub mod steps
