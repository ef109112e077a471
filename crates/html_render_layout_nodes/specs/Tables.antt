-- The data of a table's node.
use Rattle.std.specs.Prelude.{List, []}
use Rattle.html_render_parts.specs.TableCells.{CellGrid}
use Rattle.html_render_parts_widths.specs.declared.shares.ColumnNeed.{ColumnNeed}

-- the cells on the columns of the table's grid, and the widths that these columns need, once the node is measured
pub record TableParts : Type 0 where
  pub cells : CellGrid
  pub needs : List ColumnNeed

-- the unmeasured table of these cells
abbrev pub unmeasured_table : CellGrid → TableParts
unmeasured_table cells = record { cells = cells; needs = [] }
