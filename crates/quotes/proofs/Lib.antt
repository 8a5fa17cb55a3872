mod Joins
mod Rules
mod Walks
