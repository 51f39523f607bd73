pub mod Lines
pub mod Called
pub mod CallTold
pub mod BookText
pub mod steps
