mod Agrees
pub mod Paging
mod WrittenAgain
