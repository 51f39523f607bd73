-- The laws of the refusals' numbers. Other crates' proofs cite them.
pub mod Numbers
