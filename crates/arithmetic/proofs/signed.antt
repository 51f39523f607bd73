-- The laws of whole numbers and their parts. Other crates' proofs cite them.
pub mod Laws
