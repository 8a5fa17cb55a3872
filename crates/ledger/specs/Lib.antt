pub mod Ledger
pub mod Kept
