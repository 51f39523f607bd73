-- What the search is shown by. `Naming` and `Sets` hold what other crates cite.
pub mod Naming
pub mod Sets
pub mod Order
pub mod Stepping
pub mod Walking
