-- The laws of the water current. Other crates' proofs cite them.
pub mod Bounds
pub mod Currents
