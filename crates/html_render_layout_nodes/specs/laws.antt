pub mod Preorder
pub mod Splits
pub mod Visits
pub mod Counts
