-- The laws of a table's entries.
pub mod Entries
pub mod Filling
