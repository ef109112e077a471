-- The needs and the longest words of a row's cells and of a table's, as code adds them.
use Rattle.std.specs.Prelude.{◌/◌, List}
use Rattle.html_render_dom_values.specs.Forest.{Forest}
use Rattle.html_render_parts.specs.declared.table.cells.GridCell.{GridCell}
use Rattle.html_render_parts_widths.specs.declared.needs.CellNeed.{CellNeed}
use Rattle.html_render_parts_widths.specs.declared.spans.Span.{Span}
use Rattle.html_render_layout_nodes.specs.declared.tree.RenderNode.{RenderNode}
use Rattle.html_render_layout_estimates.specs.Cells.{row_values, cell_values, cell_need}
use Rattle.html_render_layout_estimates.specs.Words.{longest_word}
use Rattle.html_render_layout_estimates.specs.declared.words.WordShape.{WordShape}

abbrev pub row_needs : List GridCell → (cells : Forest RenderNode) → List CellNeed
row_needs = row_values cell_need

-- a cell's part of its longest word for each of its columns
abbrev pub cell_word : GridCell → WordShape → Span
cell_word c s = record { start = c.first; count = c.columns; value = longest_word s / c.columns }

abbrev pub row_words : List GridCell → (cells : Forest WordShape) → List Span
row_words = row_values cell_word

abbrev pub cell_words : List (List GridCell) → (rows : Forest WordShape) → List Span
cell_words = cell_values cell_word
