pub mod Appending
pub mod Closing
pub mod Moving
pub mod Places
pub mod Cells
pub mod Behind
