pub mod Held
pub mod Sums
pub mod Left
