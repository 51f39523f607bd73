-- The laws of what a line names, and of the search for it. Other crates' proofs cite them.
pub mod Naming
pub mod Searching
pub mod Weighing
pub mod Reading
