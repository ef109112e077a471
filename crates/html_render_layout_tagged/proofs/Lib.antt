pub mod Pieces
pub mod Taking
pub mod Writing
