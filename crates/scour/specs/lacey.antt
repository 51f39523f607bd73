pub mod Lacey
