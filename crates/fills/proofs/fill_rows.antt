-- Laws of a fill book's rows.
pub mod Cells
