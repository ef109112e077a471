pub mod Handles
pub mod Names
pub mod Nodes
