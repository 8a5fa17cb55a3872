pub mod Decoding
pub mod Rest
