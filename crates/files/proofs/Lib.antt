-- What a read takes of the bytes that a reader has left.
pub mod Reading
