pub mod Keyed
pub mod Among
pub mod Beginning
