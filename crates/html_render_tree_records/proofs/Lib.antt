pub mod Texts
pub mod TextAt
pub mod Made
pub mod Outcomes
