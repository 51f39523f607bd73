-- The laws of the two forces and their heights.
pub mod Meeting
pub mod Sizes
