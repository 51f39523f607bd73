pub mod Bytes
pub mod Scan
pub mod Answers
