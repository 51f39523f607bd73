-- Laws of the job book: one reading, and what bytes say is one thing. Other crates' proofs cite them.
pub mod Ends
pub mod Steps
pub mod Answers
pub mod Growing
pub mod Keeping
pub mod Walking
pub mod Stopping
pub mod Noting
pub mod Same
