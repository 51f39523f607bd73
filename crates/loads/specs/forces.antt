pub mod Blank
pub mod Wetted
pub mod Laden
pub mod Exerts
