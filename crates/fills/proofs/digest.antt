-- Laws of fills in words.
pub mod Words
