-- Blocks over any paragraphs and pictures, and their parts.
pub mod Operations
pub mod Joined
pub mod Closing
pub mod OpenRows
pub mod Parts
pub mod Tables
pub mod Block
pub mod Ends
-- The definition on whole lists, and the machine that is fed character by character.
pub mod Definition
pub mod Machine
pub mod RowSteps
-- A table as one function of its finished cells, and the operations that lay it out cell by cell.
pub mod WholeTable
pub mod CellByCell
-- What a current block ends as, once a reference to its block does.
pub mod Lending
-- Sequences of operations on a block.
pub mod Edits
-- Visible characters.
pub mod Visible
-- Laws of the definitions.
pub mod laws
