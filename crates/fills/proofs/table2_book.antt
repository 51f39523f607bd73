-- The common book that is shipped. Other crates' proofs cite what it says.
mod Writing
pub mod Common
