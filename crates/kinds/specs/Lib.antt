pub mod Table
pub mod Form
pub mod classes
pub mod letters
pub mod ranges
pub mod refusals
