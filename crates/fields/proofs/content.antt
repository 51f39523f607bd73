-- Laws of a stretch and the quotes around it. Other crates' proofs cite them.
pub mod Contents
pub mod Answers
