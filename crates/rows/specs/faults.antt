pub mod Faults
pub mod Place
pub mod steps
