pub mod Run
pub mod ShortDay
