pub mod Scans
pub mod Ways
pub mod Homes
pub mod Holes
pub mod Rows
