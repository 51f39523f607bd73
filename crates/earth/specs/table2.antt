pub mod Table2
