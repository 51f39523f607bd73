-- Laws of where the refusal of a book lies.
pub mod Ruling
pub mod Earlier
pub mod Lying
pub mod Answers
pub mod Forming
