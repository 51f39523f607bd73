-- Laws of ranges.
pub mod Ranges
