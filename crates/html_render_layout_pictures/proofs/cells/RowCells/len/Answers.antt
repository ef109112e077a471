use Rattle.std.proofs.Common.{length, sym, ap, ◌∙◌}
use Rattle.html_render_layout_pictures.proofs.CellLines.{cells-length}
use Rattle.html_render_layout_pictures.proofs.cells.RowCells.len.Goals as goal

pub returns : goal.returns
returns g c =
    ap length (rw c.deref.ensures at c.as_slice.ensures.value) ∙ sym (cells-length c.self.inside.held.value.cells.items c.self.inside.held.value.lines) ∙ ap length c.self.view_is
