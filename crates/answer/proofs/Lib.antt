-- Laws of a job's answer. Other crates' proofs cite them.
pub mod Ordering
pub mod Answers
pub mod InRange
