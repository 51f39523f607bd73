-- Laws of where a row's forces come from.
pub mod Sources
