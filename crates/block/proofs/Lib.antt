-- Laws of the text of numbers and of blocks. Other crates' proofs cite them.
pub mod Numbers
pub mod Pages
