-- The laws of what the numbers of an S row give. Other crates' proofs cite them.
pub mod Scours
pub mod ScourRow
