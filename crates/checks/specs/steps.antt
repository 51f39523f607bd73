pub mod Rounded
pub mod Ranks
pub mod BySums
pub mod HasCheck
