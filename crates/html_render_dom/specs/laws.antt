pub mod Forests
pub mod Changes
pub mod Members
pub mod Trees
pub mod script
pub mod steps
