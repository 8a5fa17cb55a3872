pub mod Laying
pub mod Writing
