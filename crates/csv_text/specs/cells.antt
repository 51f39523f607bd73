pub mod Content
pub mod Cells
pub mod Standing
