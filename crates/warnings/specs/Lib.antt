pub mod Warnings
pub mod Served
