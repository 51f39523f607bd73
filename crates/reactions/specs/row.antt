pub mod Text
pub mod Reads
