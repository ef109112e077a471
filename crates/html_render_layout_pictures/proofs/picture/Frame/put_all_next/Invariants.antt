use Rattle.std.proofs.Common.{◌≡◌, ◌+◌, ◌≤◌, ◌++◌, length, drop}
use Rattle.html_render_layout_lines.specs.TaggedText.{under}
use Rattle.html_render_layout_pictures.specs.Blank.{blank_cells}
use Rattle.html_render_layout_pictures.specs.RowCells.{cells_of, line_total}
use Rattle.html_render_layout_pictures.specs.Rows.{cells_behind}
use Rattle.html_render_layout_pictures.proofs.picture.Frame.put_all_next.Given as goal

-- the open line with what is due, and what the cells that are left have on it, whose blank text stands behind that
abbrev pub invariant-loop-cell : goal.invariant-loop-cell
invariant-loop-cell g l = record {
  lines : l.to.lines ≡ l.initial.to.lines;
  line : (l.to.line ++ under l.self.tag l.blank.due)
      ++ cells_behind l.self l.line.number (cells_of (drop l.cell-index l.others) (drop l.start l.line.lines.now.lines))
      ≡ (l.initial.to.line ++ under l.self.tag l.initial.blank.due)
      ++ cells_behind l.self l.line.number (cells_of l.others (drop l.fn.start l.line.lines.now.lines));
  left : l.blank.after ≡ blank_cells l.self.borders (drop l.cell-index l.others);
  within : l.start + line_total (drop l.cell-index l.others) ≤ length l.line.lines.now.lines;
}
