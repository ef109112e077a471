-- THE THEOREM: each operation keeps two blocks related whose paragraphs, pictures and lines are related.
pub mod Related
-- A machine's block shows what the definition's block shows.
pub mod BlockSeen
-- The next cell of a row, place by place.
pub mod NextCells
-- A block beside one with overflow on: both have the same lines. With overflow off no line passes the width. With
-- overflow on no operation refuses.
pub mod TableWithin
pub mod Beside
-- No line passes the width, after any sequence of operations with overflow off.
pub mod EditsWithin
-- No visible character is lost.
pub mod Operations
pub mod BlockVisible
-- Marks that are fed first wait.
pub mod BlockMarks
-- White space alone in a sub-block.
pub mod BlankItems
-- A table that is laid out cell by cell is that of its finished cells.
pub mod WholeTable
-- Each operation on an open table adds to the cells that were added before it.
pub mod CellByCell
