-- Laws of a row's form. Other crates' proofs cite them.
pub mod Forms
pub mod Reading
