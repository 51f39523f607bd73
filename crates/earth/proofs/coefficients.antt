-- The laws of what is held for a soil and a slope. Other crates' proofs cite them.
pub mod Held
