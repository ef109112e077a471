use Rattle.std.proofs.Common.{not, List, sym, ap, ◌∙◌}
use Rattle.std.specs.List.{list_any}
use Rattle.html_render_layout_lines.specs.Line.{is_empty}
use Rattle.html_render_layout_pictures.specs.Picture.{KeptCell}
use Rattle.html_render_layout_pictures.proofs.CellLines.{any-lines}
use Rattle.html_render_layout_pictures.proofs.cells.RowCells.has_lines.Goals as goal

pub returns : goal.returns
returns g c =
    ap not (rw c.deref.ensures at c.is_empty.ensures) ∙ sym (any-lines c.self.inside.held.value.cells.items c.self.inside.held.value.lines c.self.invariant)
    ∙ ap (λ (cs : List (KeptCell g.row.T.Denot g.row.M.Denot)). list_any (λ d. not (is_empty d.lines)) cs) c.self.view_is
