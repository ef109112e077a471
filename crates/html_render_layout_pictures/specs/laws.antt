-- widths of the characters that draw tables, by the tables of Unicode
pub mod BorderWidths
-- padding leaves tags, widths and visible characters as they are
pub mod Padding
-- lines beside each other, and marks at their ends
pub mod Lines
-- the characters of the frame have one column
pub mod Glyphs
-- characters many times in a row
pub mod Fillers
-- row by row the picture is drawn
pub mod Rows
-- each cell of a row has as many lines as the row
pub mod Heights
-- how wide the lines are
pub mod Widths
-- a map of tags commutes with the picture
pub mod Tags
-- no visible character is lost
pub mod Visible
