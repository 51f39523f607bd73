-- Laws of where a refusal lies. Other crates' proofs cite them.
pub mod Standing
pub mod Listing
pub mod Ordering
pub mod Lying
