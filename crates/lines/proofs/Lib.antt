-- Laws of the lines of an answer.
pub mod Answers
