-- The laws of Y and N. Other crates' proofs cite them.
pub mod Passing
