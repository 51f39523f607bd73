-- Rows, fields and lines by number. Other crates' proofs cite where a row starts, what stands there, and that each number has one answer.
pub mod Here
pub mod Starts
pub mod Answers
mod Finding
mod Picking
mod Breaks
