use Rattle.std.proofs.Common.{◌≡◌, ◌++◌, length}
use Rattle.html_render_tree_records.specs.Records.{line_records}
use Rattle.html_render_layout_tagged.specs.Grouping.{lines_of}
use Rattle.html_render_tree_records.proofs.lines.write_lines.Given as goal

-- the bytes so far, followed by the records of the remaining lines, are the initial bytes and the records of all lines
abbrev pub invariant-loop-line : goal.invariant-loop-line
invariant-loop-line g l =
    l.bytes.items ++ line_records g.A.Written.annotation_record (lines_of l.left) ≡ l.initial.bytes.items ++ line_records g.A.Written.annotation_record (lines_of l.lines)

abbrev pub decreases-loop-line : goal.decreases-loop-line
decreases-loop-line g l = length l.left
