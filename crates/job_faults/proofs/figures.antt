-- The laws of the figures.
pub mod Filled
pub mod Spreading
