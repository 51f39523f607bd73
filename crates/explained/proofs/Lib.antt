-- The theorem that what is told of where a refusal lies is what a call tells, and on which row of the book.
pub mod Roles
pub mod Written
pub mod Explained
