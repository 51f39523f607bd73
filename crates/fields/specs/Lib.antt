pub mod Numbers
pub mod content
pub mod digits
pub mod names
pub mod Entries
pub mod steps
