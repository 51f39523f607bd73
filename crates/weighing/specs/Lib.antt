pub mod Named
pub mod steps
