-- the tree: its nodes as one list, and splits of it
pub mod Tables
pub mod RenderNodes
pub mod Preorder
pub mod Splits
-- properties of each kind of node, and the dump of a tree
pub mod Kinds
pub mod Dump
-- the walk: the visit of each node, and the counts of visits
pub mod Visits
pub mod Counts
pub mod Walk
-- the depths of the nodes
pub mod Depths
-- laws of the definitions
pub mod laws
