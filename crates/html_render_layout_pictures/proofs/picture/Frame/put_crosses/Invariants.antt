use Rattle.std.proofs.Common.{◌≡◌, ◌++◌, drop}
use Rattle.html_render_layout_pictures.proofs.Crosses.{crossed}
use Rattle.html_render_layout_pictures.proofs.picture.Frame.put_crosses.Given as goal

-- with the crosses of the cells ahead the line is the whole border
abbrev pub invariant-loop-width : goal.invariant-loop-width
invariant-loop-width g l = record {
  lines : l.to.lines ≡ l.initial.to.lines;
  line : l.to.line ++ crossed {M = g.row.M.Denot} l.self l.dashes (drop l.width-index l.others)
      ≡ l.initial.to.line ++ crossed {M = g.row.M.Denot} l.self l.first l.others;
}
