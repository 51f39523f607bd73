-- The laws of Table 4.
pub mod Constants
