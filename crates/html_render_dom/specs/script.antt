-- commands of a script's lines
pub mod Commands
-- documents that scripts build
pub mod Scripts
-- bytes that a text lacks, and joined texts
pub mod Plain
