-- The laws of the order of figures. Other crates' proofs cite them.
pub mod Ranking
pub mod Sides
