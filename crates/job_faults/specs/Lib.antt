pub mod First
pub mod JobRows
pub mod rules
pub mod Out
pub mod Faults
pub mod steps
