pub mod decides
pub mod rounding
pub mod signed
