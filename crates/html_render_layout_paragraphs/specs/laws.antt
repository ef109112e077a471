-- The line buffer before a character that is placed by itself, by cases.
pub mod Cases
-- Feeding keeps the setting.
pub mod Kept
-- Feeding character by character gives the paragraph of all characters.
pub mod Whole
-- Words that fit are appended as a whole.
pub mod Words
-- Relations of two partial results.
pub mod Answers
-- A paragraph beside another with overflow on: width, refusals and overflow.
pub mod Beside
-- No visible character is lost.
pub mod Visible
-- Wrapping doesn't depend on tags.
pub mod Tags
-- Texts that are cut where lines are full.
pub mod CutText
-- The lines that place nothing are the placed lines.
pub mod meaning
