-- The laws of what a C row is told. Other crates' proofs cite them.
pub mod Clearances
pub mod Levels
pub mod ClearanceRow
