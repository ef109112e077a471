use Rattle.std.proofs.Common.{nat_lt, rules, sym}
use Rattle.std.proofs.lemmas.List.Sorted.{IsPartitionedBy-ltb, IsPartitionPoint-from_clause}
use Rattle.html_render_parts.proofs.EdgeRanks.{IsNonDecreasing-rising, rank-split}
use Rattle.html_render_parts.proofs.table.numbering.rank.Goals as goal

pub returns : goal.returns
returns c =
    let xs = c.args.edges.now in
    let t = c.args.position in
    let parts = IsPartitionPoint-from_clause (λ y. nat_lt y t) _ _ c.partition_point.ensures.partitioned
    (IsPartitionedBy-ltb (λ x. x) xs t (IsNonDecreasing-rising xs c.requires)) (λ a r q k. search rules) in
    sym (rank-split xs t c.partition_point.result c.partition_point.ensures.bound parts.0 parts.1)
