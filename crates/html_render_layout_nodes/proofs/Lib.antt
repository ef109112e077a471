pub mod Copies
pub mod Walking
mod Depths
