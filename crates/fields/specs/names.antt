pub mod Names
pub mod NameAt
