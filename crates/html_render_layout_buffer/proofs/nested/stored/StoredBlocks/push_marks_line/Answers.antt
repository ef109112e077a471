use Rattle.std.proofs.Common.{arith}
use Rattle.std.proofs.lemmas.Grind.{common_steps}
use Rattle.html_render_layout_lines.specs.laws.Columns.{columns-marks}
use Rattle.html_render_layout_buffer.proofs.nested.stored.StoredBlocks.push_marks_line.Goals as goal

pub returns : goal.returns
returns g c = rw (columns-marks g.row.T.Denot c.args.marks.now) (grind (arith, common_steps))
