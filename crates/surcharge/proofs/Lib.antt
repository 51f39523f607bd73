-- The laws of a surcharge. Other crates' proofs cite them.
pub mod Bounds
pub mod Surcharges
