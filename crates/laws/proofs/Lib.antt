mod Readings
mod After
mod Fitting
mod Accepted
mod Exact
mod Tells
mod Own
mod Figures
mod Stands
mod Everything
mod Sized
mod Chains
mod Traces
mod Runs
mod Growth
pub mod Theorems
