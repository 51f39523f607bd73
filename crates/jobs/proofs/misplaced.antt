-- Laws of the rules by which a row is out of place.
pub mod Ruling
pub mod Asking
