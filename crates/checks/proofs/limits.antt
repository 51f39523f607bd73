-- The laws of limits. Other crates' proofs cite them.
pub mod Limiting
