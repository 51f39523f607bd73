-- The laws of bounds. Other crates' proofs cite them.
pub mod Bounding
pub mod Keeping
