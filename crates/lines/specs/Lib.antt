pub mod Lines
pub mod verdicts
pub mod Alone
pub mod Numbered
