pub mod Scour
pub mod discharge
pub mod lacey
pub mod ScourRow
