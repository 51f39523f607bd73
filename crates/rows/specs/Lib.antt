pub mod Form
pub mod Answer
pub mod keys
pub mod refusals
pub mod faults
pub mod steps
