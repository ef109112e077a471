-- nodes: their contents, and their places in the forest
pub mod Content
pub mod Names
pub mod Elements
pub mod Nodes
-- nodes after single edits and moves
pub mod Edits
pub mod Moves
-- definitions for private functions and fields
pub mod Handles
pub mod LocalNames
pub mod AttributeLists
pub mod Room
pub mod Places
-- laws of these definitions
pub mod laws
