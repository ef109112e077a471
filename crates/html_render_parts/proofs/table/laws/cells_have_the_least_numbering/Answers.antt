use Rattle.html_render_parts.proofs.GridOfCells.{cells-least, cells-numbering, cells-rising, edge-ends, ends-edge}
use Rattle.html_render_parts.proofs.table.laws.cells_have_the_least_numbering.Goals as goal

pub returns : goal.returns
returns c = record {
  edges = λ rows g is e. (edge-ends rows g is e, ends-edge rows g is e);
  rising = cells-rising;
  numbering = cells-numbering;
  least = cells-least;
}
