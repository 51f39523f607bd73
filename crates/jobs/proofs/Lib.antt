-- Laws of a row's place in its job.
pub mod Answers
