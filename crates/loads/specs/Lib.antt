pub mod Answer
pub mod LoadRows
pub mod forces
pub mod steps
