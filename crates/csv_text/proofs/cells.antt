-- Laws of the cells of a row. Other crates' proofs cite them.
pub mod Fields
pub mod Standing
pub mod Answers
pub mod Left
mod Noted
