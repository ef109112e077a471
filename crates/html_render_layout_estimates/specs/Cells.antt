-- The cells of a table: their columns on the grid, and the widths that they need there.
use Rattle.std.specs.Prelude.{List, [], ◌∷◌, ◌++◌}
use Rattle.html_render_dom_values.specs.Forest.{Forest, node}
use Rattle.html_render_parts.specs.declared.table.cells.GridCell.{GridCell}
use Rattle.html_render_parts_widths.specs.declared.needs.CellNeed.{CellNeed}
use Rattle.html_render_layout_nodes.specs.declared.tree.RenderNode.{RenderNode}

-- values of a row's cells: each cell has the next of these trees, as far as there are any
abbrev pub row_values : {K V : Type 0} → (GridCell → K → V) → List GridCell → (cells : Forest K) → List V
row_values value (c ∷ cs) (node k children beside) = value c k ∷ row_values value cs beside
row_values value cells trees = []

-- values of a table's cells, row by row
abbrev pub cell_values : {K V : Type 0} → (GridCell → K → V) → List (List GridCell) → (rows : Forest K) → List V
cell_values value (cells ∷ more) (node k children beside) = row_values value cells children ++ cell_values value more beside
cell_values value rows trees = []

-- THE NEED OF A CELL over its columns, and those of a table's cells
abbrev pub cell_need : GridCell → RenderNode → CellNeed
cell_need c n = record { start = c.first; count = c.columns; preferred_width = n.estimate.preferred_width; min_width = n.estimate.min_width }

abbrev pub cell_needs : List (List GridCell) → (rows : Forest RenderNode) → List CellNeed
cell_needs = cell_values cell_need
