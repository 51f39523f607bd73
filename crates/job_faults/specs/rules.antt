pub mod Shows
pub mod steps
