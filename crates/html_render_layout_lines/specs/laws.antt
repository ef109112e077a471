-- facts on values that may be missing, and on choices
pub mod Cases
-- how wide printable characters are
pub mod Characters
-- how wide lines are
pub mod Columns
-- the visible characters of lines
pub mod Visible
-- lines with other tags
pub mod Tags
-- runs that cut a text up
pub mod Runs
