pub mod Levels
pub mod Rule
