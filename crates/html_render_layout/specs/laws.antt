pub mod Opening
pub mod Sizes
pub mod Related
pub mod Representation
pub mod LayoutLaws
pub mod LayoutWorks
pub mod LayoutVisible
pub mod Promises
