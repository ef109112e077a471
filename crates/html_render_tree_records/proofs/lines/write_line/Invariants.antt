use Rattle.std.proofs.Common.{◌≡◌, ◌++◌, length}
use Rattle.html_render_tree_records.specs.Records.{pieces_record}
use Rattle.html_render_layout_tagged.specs.Grouping.{pieces_of}
use Rattle.html_render_tree_records.proofs.lines.write_line.Given as goal

-- the written records and those that remain are all
abbrev pub invariant-loop-element : goal.invariant-loop-element
invariant-loop-element g l =
    l.bytes.items ++ pieces_record g.A.Written.annotation_record (pieces_of l.elements) ≡ l.initial.bytes.items ++ pieces_record g.A.Written.annotation_record (pieces_of l.line)

abbrev pub decreases-loop-element : goal.decreases-loop-element
decreases-loop-element g l = length l.elements
