-- what becomes of each element
pub mod Images
pub mod Drawings
pub mod Marks
pub mod Tables
pub mod Conversion
-- texts that an element inserts
pub mod ElementTexts
-- what becomes of a node, its children aside
pub mod Plans
-- THE DEFINITION of the conversion
pub mod Results
-- elements whose plan is known by their names
pub mod KnownElements
-- the events of a walk over a document
pub mod Events
-- events of visits, and the nodes that a walk visits
pub mod Visits
-- what a node keeps and counts of what its children become
pub mod Keeping
-- nodes in pre-order, and what an open element has still to write
pub mod Held
-- elements that are open during the walk
pub mod OpenElements
-- what each event does to them
pub mod Steps
