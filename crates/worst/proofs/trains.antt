-- The laws of leading rows.
pub mod Leaders
pub mod Present
