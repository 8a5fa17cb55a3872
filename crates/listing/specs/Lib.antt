pub mod Rewriting
pub mod Paging
pub mod Feeds
