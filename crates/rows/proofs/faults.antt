-- Laws of why a row has no form. Other crates' proofs cite the answers.
mod Columns
pub mod Answers
