-- Laws of the warnings. Other crates' proofs cite those of the answers and of the sets.
pub mod Answers
pub mod Served
mod Among
