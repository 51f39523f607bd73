-- Laws of how the kinds are written. Other crates' proofs cite them.
pub mod Letters
pub mod Answers
