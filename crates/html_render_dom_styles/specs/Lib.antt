-- specificities
pub mod Specificities
-- the winner among updates of a property
pub mod Cascade
-- the winner so far, and the next update
pub mod Keeping
-- style rules, and the elements that they select
pub mod Rules
pub mod Selectors
-- laws of these definitions
pub mod laws
