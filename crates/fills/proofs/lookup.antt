-- Laws of the lookup.
pub mod Rows
pub mod Finding
pub mod Placing
