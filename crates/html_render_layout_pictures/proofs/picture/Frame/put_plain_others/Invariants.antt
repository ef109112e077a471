use Rattle.std.proofs.Common.{◌≡◌, ◌+◌, ◌≤◌, ◌++◌, length, drop}
use Rattle.html_render_layout_lines.specs.TaggedText.{under}
use Rattle.html_render_layout_buffer.specs.Padding.{repeated}
use Rattle.html_render_layout_pictures.specs.RowCells.{cells_of, line_total}
use Rattle.html_render_layout_pictures.specs.Rows.{cells_behind}
use Rattle.html_render_layout_pictures.proofs.picture.Frame.put_plain_others.Given as goal

-- the text with the spaces that are missing, and what the cells that are left have on the line
abbrev pub invariant-loop-cell : goal.invariant-loop-cell
invariant-loop-cell g l = record {
  line : (under l.self.tag l.text ++ repeated l.self.tag 0x20 l.missing)
      ++ cells_behind l.self l.line.number (cells_of (drop l.cell-index l.others) (drop l.start l.line.lines.now.lines))
      ≡ (under l.self.tag l.initial.text ++ repeated l.self.tag 0x20 l.fn.missing)
      ++ cells_behind l.self l.line.number (cells_of l.others (drop l.fn.start l.line.lines.now.lines));
  within : l.start + line_total (drop l.cell-index l.others) ≤ length l.line.lines.now.lines;
}
