pub mod Behind
pub mod LinesIn
pub mod Tabled
