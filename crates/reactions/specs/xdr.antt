pub mod Record
pub mod steps
