pub mod Slots
pub mod Homes
pub mod Rows
pub mod Gathers
