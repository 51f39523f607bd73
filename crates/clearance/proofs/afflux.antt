-- The laws of the rules for clearance.
pub mod Rules
pub mod Bounds
