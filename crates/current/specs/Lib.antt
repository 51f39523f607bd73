pub mod Current
pub mod table4
pub mod force
pub mod CurrentRow
