-- documents: nodes and their trees, and the value of an `RcDom`
pub mod Dom
pub mod Documents
-- results of queries, and documents after edits
pub mod Paths
pub mod Dump
pub mod Edits
pub mod Moves
-- computed styles
pub mod Attributes
pub mod Applying
pub mod ElementStyle
pub mod RuleIndex
-- faults of single calls
pub mod Faults
-- steps and the documents that they build
pub mod Steps
pub mod StepFaults
-- scripts and the documents that they build
pub mod script
-- definitions for private functions
pub mod Frames
-- laws of these definitions
pub mod laws
