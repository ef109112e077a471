pub mod Cuts
pub mod GivingOrder
pub mod UnitCut
pub mod SharesFit
pub mod WordMinimums
pub mod Needs
pub mod FairestAcross
