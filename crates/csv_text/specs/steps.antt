pub mod FieldAt
pub mod Closing
pub mod NextSpot
