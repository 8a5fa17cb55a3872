pub mod Maps
pub mod Scan
pub mod Writes
pub mod Walks
