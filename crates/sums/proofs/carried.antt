-- The laws of carried sums. Other crates' proofs cite them.
pub mod Carrying
