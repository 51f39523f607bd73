-- Laws of digits. Other crates' proofs cite them.
pub mod Numerals
