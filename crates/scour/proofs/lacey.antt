-- The laws of the rules for scour.
pub mod Rules
