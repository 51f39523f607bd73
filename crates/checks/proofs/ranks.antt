-- The laws of OP, OM, SL, PR and RK. Other crates' proofs cite them.
pub mod Ranks
pub mod Pressing
pub mod Exactly
