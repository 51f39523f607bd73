-- The laws of permitted sets. Other crates' proofs cite them.
pub mod Admitted
