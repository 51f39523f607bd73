-- Laws of the text of lines. Other crates' proofs cite them.
mod Fields
pub mod Printed
pub mod Room
pub mod Injective
