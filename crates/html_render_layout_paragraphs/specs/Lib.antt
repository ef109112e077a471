-- The definition of a paragraph.
pub mod Paragraph
-- The meaning of a paragraph's lines: a definition that places nothing.
pub mod Meaning
-- Steps of placing.
pub mod Placing
-- The machine of a paragraph, which is fed character by character.
pub mod Stream
-- The open word.
pub mod OpenWord
-- The definition of a text that is cut where lines are full.
pub mod CutText
-- A word that is appended to a line as a whole.
pub mod Word
-- Parts of a text that a paragraph takes as slices.
pub mod Feeding
-- Laws of these definitions.
pub mod laws
