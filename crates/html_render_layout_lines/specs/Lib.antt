-- what a character is to the wrapping
pub mod Character
-- a line, and its columns
pub mod Line
-- the characters that can be seen
pub mod Visible
-- lines with other tags
pub mod Tags
-- a text under runs of tags
pub mod TaggedText
-- what follows from the definitions
pub mod laws
