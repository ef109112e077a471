pub mod Refusal
pub mod OwnCells
