pub mod Rfc4180
