pub mod CutColumns
pub mod CutLevels
pub mod CutLevelForm
pub mod CutLowering
pub mod FairestCut
pub mod ColumnNeeds
pub mod Spreading
