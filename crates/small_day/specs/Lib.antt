pub mod SmallDay
