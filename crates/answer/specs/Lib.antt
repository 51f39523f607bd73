pub mod Columns
pub mod Rules
pub mod Answer
pub mod river
pub mod steps
