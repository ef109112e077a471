-- characters that draw tables
pub mod Glyphs
-- characters that stand many times in a row
pub mod Fillers
-- THE DEFINITION of a picture
pub mod Picture
-- where the separators of a row stand
pub mod Separators
-- a row line by line, and its cells, whose lines stand one after another
pub mod Rows
pub mod RowCells
-- what stands on a row's line where no cell has one
pub mod Blank
-- the picture row by row
pub mod Drawing
-- how wide a row is
pub mod Widths
-- pictures with other tags
pub mod Tags
-- the visible characters of rows
pub mod Visible
-- what follows from the definitions
pub mod laws
