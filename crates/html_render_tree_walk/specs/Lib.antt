-- children that are picked, and the walk over a document's lists of children
pub mod Walk
