-- Laws of the written row.
pub mod Written
