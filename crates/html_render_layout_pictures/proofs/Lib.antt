pub mod Blanks
pub mod CellLines
pub mod Crosses
pub mod LawSets
pub mod OnlyCell
pub mod RowLines
pub mod Separators
pub mod PlainLines
