-- Laws of the verdict. Other crates' proofs cite them.
pub mod Marking
pub mod Answers
