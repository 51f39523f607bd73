pub mod Asking
pub mod Exerted
