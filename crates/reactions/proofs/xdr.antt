pub mod Words
pub mod Records
