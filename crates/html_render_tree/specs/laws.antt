-- the lines of a configuration, their strings and their texts
pub mod Rendering
-- good trees: their places, the kinds of nodes that elements become, results over good trees, and the render tree of a document
pub mod GoodPlaces
pub mod GoodTrees
-- all nodes of a good tree are visited, except those that a layout leaves out
pub mod Visited
