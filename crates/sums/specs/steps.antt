pub mod Sums
pub mod Carried
