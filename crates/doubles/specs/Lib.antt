pub mod Doubles
pub mod Answers
