-- definitions of the layout, and of the code's machine
-- bullets of lists
pub mod Bullets
pub mod Images
pub mod Ending
pub mod Layout
pub mod Opening
-- texts that show nothing as items of lists
pub mod Blank
-- cells of a table that hold one text
pub mod TextCells
pub mod Working
-- the texts of a document that its lines show
pub mod Kept
-- laws of the definitions
pub mod laws
pub mod Promises
