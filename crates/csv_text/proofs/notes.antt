-- Passing the rows of a text to the one whose note is sought. Other crates' proofs cite how each row is reached, and that a number has one row.
pub mod Reached
pub mod Answers
mod Passing
