pub mod Totals
pub mod TotalsOf
pub mod steps
