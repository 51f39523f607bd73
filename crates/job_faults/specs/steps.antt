pub mod Ahead
pub mod Found
pub mod Figures
