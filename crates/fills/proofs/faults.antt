-- Laws of where the refusal of a fill book lies. Other crates' proofs cite that it lies in one place, and in none exactly where there is a fill book.
pub mod Columns
pub mod Lying
