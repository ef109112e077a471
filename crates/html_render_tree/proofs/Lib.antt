-- words that are widths, and bytes that are scripts
pub mod Numbers
pub mod Scripts
-- the end of a run
pub mod Runs
-- the text of a document
pub mod Renderings
