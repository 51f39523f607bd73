pub mod Verdict
pub mod Judged
