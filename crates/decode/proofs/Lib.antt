pub mod Parts
pub mod Numbers
pub mod Digits
pub mod Whole
pub mod Back
