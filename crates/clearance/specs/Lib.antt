pub mod Clear
pub mod afflux
pub mod ClearanceRow
