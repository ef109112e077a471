use Rattle.html_render_parts.proofs.HangingFromAbove.{above-earlier, bottom-above, hanging-counts, hangs-there, own-above, rows-above, there-hangs}
use Rattle.html_render_parts.proofs.HangingOrder.{IsByColumn-hanging}
use Rattle.html_render_parts.proofs.table.laws.cells_hang_from_all_rows_above.Goals as goal

pub returns : goal.returns
returns c = record {
  rows = rows-above;
  own = own-above;
  bottom = bottom-above;
  above = above-earlier;
  all = λ row above d. (hangs-there row above d, there-hangs row above d);
  each = hanging-counts;
  ordered = IsByColumn-hanging;
}
