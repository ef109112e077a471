use Rattle.std.proofs.lemmas.List.Filters.{dedup_is}
use Rattle.std.proofs.lemmas.List.Kept.{Contains-dedup_nat, Contains-from_dedup}
use Rattle.std.proofs.lemmas.List.Sorted.{Contains-permutation, IsPermutation-sym}
use Rattle.std.proofs.lemmas.Map.Keys.{IsStrictlyIncreasing-dedup}
use Rattle.html_render_parts.proofs.EdgeRanks.{rising-only}
use Rattle.html_render_parts.proofs.table.numbering.make_rising.Goals as goal

pub returns : goal.returns
returns c =
    let is = dedup_is _ _ _ c.dedup.ensures.filtered in
    let moved = c.in_ok-sort.ensures.permutation in
    rising-only _ c.args.positions.now.items (rw is (IsStrictlyIncreasing-dedup _ c.in_ok-sort.ensures.sorted))
    (λ n h. Contains-permutation _ _ n (IsPermutation-sym _ _ moved) (Contains-from_dedup _ _ n (rw is at h)))
    (λ n h. rw is (Contains-dedup_nat _ n (Contains-permutation _ _ n moved h)))
