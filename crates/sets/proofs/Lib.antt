-- The laws of bits, of what raises a combination, of permitted and admitted sets, and of arms of several variants. Other crates' proofs cite them.
pub mod Bits
pub mod Arms
pub mod Occasions
pub mod Permitting
pub mod Admitting
