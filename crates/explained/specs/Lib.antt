pub mod Written
pub mod Explained
