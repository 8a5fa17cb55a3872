pub mod Slots
pub mod Rows
pub mod SlotsLemmas
pub mod Ranks
