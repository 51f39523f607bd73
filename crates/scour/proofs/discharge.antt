-- The laws of the discharge of a foundation.
pub mod Rules
pub mod Bounds
