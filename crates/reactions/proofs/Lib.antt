-- Laws of the rows that records give.
pub mod Finite
pub mod Columns
pub mod Exact
pub mod Answers
pub mod Length
