-- Laws of what numbers are. Other crates' proofs cite them.
pub mod Numerals
pub mod Answers
