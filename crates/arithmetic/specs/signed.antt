pub mod Whole
pub mod Parts
