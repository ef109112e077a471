pub mod Tables
pub mod Words
pub mod Least
