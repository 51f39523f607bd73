pub mod Blank
pub mod Place
pub mod Taking
pub mod stages
pub mod misplaced
