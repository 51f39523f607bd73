pub mod Answering
pub mod Asking
pub mod FirstRows
mod Laying
mod Refusing
pub mod Naming
pub mod InRange
pub mod Loaded
