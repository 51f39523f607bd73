-- The laws of choices.
pub mod Choices
pub mod Rows
pub mod Beside
