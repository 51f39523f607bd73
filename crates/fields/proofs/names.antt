-- Laws of names.
pub mod Names
pub mod Answers
