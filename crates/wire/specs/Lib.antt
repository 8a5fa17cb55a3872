pub mod Fault
pub mod Judging
pub mod Kinds
pub mod Layout
pub mod Symbols
pub mod Table
pub mod Told
