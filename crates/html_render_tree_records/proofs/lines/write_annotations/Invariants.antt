use Rattle.std.proofs.Common.{◌≡◌, ◌++◌, length}
use Rattle.std.specs.List.{flat_map}
use Rattle.html_render_tree_records.proofs.lines.write_annotations.Given as goal

-- the written records and those that remain are all
abbrev pub invariant-loop-annotation : goal.invariant-loop-annotation
invariant-loop-annotation g l =
    l.bytes.items ++ flat_map g.A.Written.annotation_record l.left ≡ l.initial.bytes.items ++ flat_map g.A.Written.annotation_record l.annotations

abbrev pub decreases-loop-annotation : goal.decreases-loop-annotation
decreases-loop-annotation g l = length l.left
