pub mod Sets
pub mod Bounded
pub mod Led
pub mod steps
