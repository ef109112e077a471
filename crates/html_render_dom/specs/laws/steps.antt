pub mod Childless
pub mod Determined
