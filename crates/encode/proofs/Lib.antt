pub mod Again
pub mod Answering
pub mod Bytes
pub mod Laying
pub mod Passing
pub mod Shapes
