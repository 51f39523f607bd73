pub mod xdr
pub mod Force
pub mod Exact
pub mod row
pub mod Asked
pub mod Reacts
pub mod RowsOfRecords
pub mod steps
