-- annotation stacks of tags, and the result of a layout
pub mod Stacks
pub mod LaidOut
-- lines of tagged strings
pub mod TaggedLine
-- grouping of a line's characters into tagged strings
pub mod Grouping
-- grouping from the start of a line
pub mod Progress
-- lines under a colour map
pub mod Colouring
-- laws of these definitions
pub mod laws
