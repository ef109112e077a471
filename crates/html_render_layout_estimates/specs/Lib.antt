-- the default settings of a layout
pub mod Settings
-- the preferred width of a text
pub mod TextSize
-- the cells of a table
pub mod Cells
-- the needs of a table's columns
pub mod Columns
-- THE DEFINITION of estimates
pub mod Estimates
-- the estimate of siblings, part by part
pub mod Children
-- the result of the code's pass
pub mod Passes
-- the words of nodes, and the longest ones of a table's columns
pub mod Words
-- the shape of a text, word by word, and shapes of nodes
pub mod WordSteps
-- the needs and the longest words of cells, as code adds them
pub mod CellSteps
-- laws of these definitions
pub mod laws
