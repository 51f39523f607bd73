pub mod Signs
pub mod Wholes
pub mod Answers
pub mod Products
pub mod Patterns
