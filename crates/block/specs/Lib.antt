pub mod Decimal
pub mod Block
pub mod Fields
