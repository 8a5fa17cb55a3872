mod Played
mod Reports
pub mod Fronts
