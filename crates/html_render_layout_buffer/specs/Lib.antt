-- a list of tags in runs
pub mod Runs
-- marks at the ends of lines, lines that are filled, and lines after prefixes
pub mod Marked
pub mod Padding
pub mod Prefixed
-- ended lines and an open one
pub mod Lines
-- ends of appended lines
pub mod Moved
-- how lines are stored
pub mod Fields
-- slots of words
pub mod Words
-- runs of a line
pub mod Parts
-- finished lines in pieces
pub mod Pieces
-- lines of blocks in blocks, how wide they are, and how they are stored
pub mod Nested
pub mod Widths
pub mod Levels
