pub mod Fault
pub mod Index
pub mod Messages
