-- pushed stacks, and the stacks that they leave unchanged
pub mod Stacks
-- columns and characters of a grouped line, and its strings
pub mod Grouping
