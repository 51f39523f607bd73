-- The laws of the force and its height.
pub mod Fractions
