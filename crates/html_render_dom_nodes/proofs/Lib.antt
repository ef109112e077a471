pub mod Children
pub mod Mapped
pub mod SameNames
pub mod Places
pub mod Writes
