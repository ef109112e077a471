-- Words on a line.
pub mod Words
-- The parts of a text, laid in order.
pub mod Laying
-- Parts that are on a line are laid there.
pub mod Standing
-- The lines of a paragraph are placed.
pub mod Placed
-- Parts whose lines are the laid ones.
pub mod Behind
-- Placed lines are the paragraph's.
pub mod Meant
-- The width of a paragraph's lines.
pub mod Widths
