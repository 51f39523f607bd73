pub mod Table4
