pub mod Coefficients
pub mod Lent
