-- Laws of what the river rows of a job are told. Other crates' proofs cite them.
pub mod Telling
pub mod Answers
