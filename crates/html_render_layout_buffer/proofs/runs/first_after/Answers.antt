use Rattle.std.proofs.Common.{nat_le, rules}
use Rattle.std.proofs.lemmas.Bool.{leb-true, leb-false}
use Rattle.std.proofs.lemmas.List.Sorted.{IsPartitionedBy-leb, IsPartitionPoint-from_clause}
use Rattle.html_render_layout_buffer.specs.declared.runs.TagRun.{TagRun}
use Rattle.html_render_layout_buffer.proofs.runs.first_after.Goals as goal

pub returns-clause-ended : goal.returns-clause-ended
returns-clause-ended g c =
    let xs = c.args.runs.now in
    let t = c.args.place in
    let parts = IsPartitionPoint-from_clause (λ (r : TagRun g.row.T.Denot). nat_le r.end t) xs _ c.partition_point.ensures.partitioned
    (IsPartitionedBy-leb (λ (r : TagRun g.row.T.Denot). r.end) xs t c.requires) (λ a r q k. search rules) in
    λ k d p h. leb-true _ _ (parts.0 k d p h)

pub returns-clause-later : goal.returns-clause-later
returns-clause-later g c =
    let xs = c.args.runs.now in
    let t = c.args.place in
    let parts = IsPartitionPoint-from_clause (λ (r : TagRun g.row.T.Denot). nat_le r.end t) xs _ c.partition_point.ensures.partitioned
    (IsPartitionedBy-leb (λ (r : TagRun g.row.T.Denot). r.end) xs t c.requires) (λ a r q k. search rules) in
    λ k d p h. leb-false _ _ (parts.1 k d p h)
