pub mod Names
pub mod Line
pub mod Writing
