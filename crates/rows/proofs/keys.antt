-- Laws of keys.
mod Same
pub mod Answers
