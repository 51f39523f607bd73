pub mod Step
pub mod Kept
pub mod Stop
pub mod Faulted
