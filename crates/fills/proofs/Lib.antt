-- Laws of fill books: one reading, one thing that two of them say, and what is gathered of it. Other crates' proofs cite them.
pub mod OneReading
pub mod Sharing
mod Walking
mod Laying
mod Gathering
pub mod Holding
