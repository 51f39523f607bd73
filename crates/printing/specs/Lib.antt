pub mod Keys
pub mod Text
pub mod AnswerText
pub mod line_fields
pub mod line_key
pub mod refused_book
pub mod steps
