-- Laws of writing to a lent buffer.
pub mod Buffer
