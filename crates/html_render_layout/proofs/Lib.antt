pub mod Ending
pub mod Fences
pub mod FileNames
pub mod Struck
pub mod BlankItems
pub mod Trees
pub mod TextCells
