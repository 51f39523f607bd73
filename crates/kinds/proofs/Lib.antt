-- Laws of the table of kinds. Other crates' proofs cite them.
pub mod Arms
pub mod Answers
pub mod Trains
pub mod Numbered
