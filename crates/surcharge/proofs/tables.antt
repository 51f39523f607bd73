-- The laws of Table 3 and of the coefficients.
pub mod Sizes
