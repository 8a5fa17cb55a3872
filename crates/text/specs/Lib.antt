pub mod Placed
pub mod Pieces
pub mod FaultLine
pub mod Line
