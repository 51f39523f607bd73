-- The laws of sums. Other crates' proofs cite them.
pub mod Adding
