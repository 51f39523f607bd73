pub mod Scan
pub mod Ends
pub mod Answers
