-- Laws of hexadecimal digits, and of filling a lent buffer with the bytes that they stand for or with the digits of bytes.
pub mod Digits
pub mod Filling
pub mod Decoding
pub mod Encoding
