-- Where a text stops being RFC 4180. Other crates' proofs cite that there is one answer, and that None is the answer exactly where the text is one.
pub mod Answers
pub mod Sense
mod Going
mod Spots
mod Apart
mod Taking
mod Walking
