-- the result of a call without bytes
pub mod Faults
-- options that records of settings make
pub mod Settings
-- lines as records of bytes
pub mod Records
-- the outcome of a call for a document of steps
pub mod Pages
