-- cuts of columns to a width
pub mod Cuts
-- the promises of a cut's result
pub mod ColumnCuts
-- the level form of a cut
pub mod LevelForm
-- widths of a table's columns, from their needs
pub mod Shares
-- values over ranges of columns, and the steps that spread them
pub mod Spans
pub mod SpanSteps
-- needs of a table's columns, from its cells
pub mod Needs
-- properties of a cut's intermediate results
pub mod CutSteps
-- laws and lemmas of all these
pub mod laws
