pub mod Form
pub mod steps
