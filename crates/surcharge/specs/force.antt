pub mod Force
pub mod Meeting
pub mod steps
