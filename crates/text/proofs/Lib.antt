mod Digits
mod PieceByPiece
pub mod Writes
pub mod Lines
