-- The laws of the figure of a set. Other crates' proofs cite them.
pub mod Showing
pub mod Examples
