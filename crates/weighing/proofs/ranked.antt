-- The laws of ranked sets.
pub mod Weights
