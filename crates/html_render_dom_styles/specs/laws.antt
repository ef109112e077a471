pub mod Orders
pub mod Winners
pub mod Keeps
