-- The laws of earth pressure. Other crates' proofs cite them.
pub mod Bounds
pub mod Pressures
